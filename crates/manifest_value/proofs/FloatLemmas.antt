-- The place of a float, one step further out.
use Rattle.manifest_schema.specs.Prelude.{view, items_view, members_view, Value, index, key, plain, plain_items, item_floats, entry_floats, float_findings, faults_of, first_found, found_under}
use Rattle.std.proofs.Common.{◌≡◌, ℕ, suc, true, ◌&&◌, List, ◌∷◌, ◌++◌, String, Global, string_bytes, sym, ap, ◌∙◌, get_or, length, ◌<◌, drop, drop-cons}
use Rattle.manifest_fault.specs.Faults.{FaultIn, IsUnder}
use Rattle.manifest_fault.specs.declared.fault.ReadFault.{ReadFault}
use Rattle.manifest_value.proofs.FirstLemmas.{plain_clean, faultless_before, faultless_under, first_before, first_same, first_under}

-- THE FIRST FLOAT: the items and the entries before it have none
module _ (vs : List Value) (i : ℕ) (v : Value) (b : i < length vs) (e : v ≡ get_or vs i v) where
  floats_left : item_floats i (items_view (drop i vs)) ≡ found_under (index i) (float_findings (view v))
      ++ item_floats (suc i) (items_view (drop (suc i) vs))
  floats_left =
      ap (λ ws. item_floats i (items_view ws)) (drop-cons vs i v b)
      ∙ ap (λ w. found_under (index i) (float_findings (view w)) ++ item_floats (suc i) (items_view (drop (suc i) vs)))
      (sym e)

  pub plain_left : plain (view v) ≡ true → plain_items (items_view (drop i vs)) ≡ plain_items
      (items_view (drop (suc i) vs))
  plain_left p =
      ap (λ ws. plain_items (items_view ws)) (drop-cons vs i v b)
      ∙ ap (λ b. b && plain_items (items_view (drop (suc i) vs))) (ap (λ w. plain (view w)) (sym e) ∙ p)

  pub plain_before : plain (view v) ≡ true → faults_of (item_floats i (items_view (drop i vs))) ≡ faults_of
      (item_floats (suc i) (items_view (drop (suc i) vs)))
  plain_before p =
      ap faults_of floats_left
      ∙ faultless_before (found_under (index i) (float_findings (view v)))
      (item_floats (suc i) (items_view (drop (suc i) vs)))
      (faultless_under (index i) (float_findings (view v)) (plain_clean (view v) p))

  pub first_float_item : (f g : ReadFault) → faults_of (item_floats 0 (items_view vs)) ≡ faults_of
      (item_floats i (items_view (drop i vs)))
      → FaultIn (first_found (float_findings (view v))) f → IsUnder (index i) f g
      → FaultIn (first_found (item_floats 0 (items_view vs))) g
  first_float_item f g before h k =
      let here = found_under (index i) (float_findings (view v)) in
      let later = item_floats (suc i) (items_view (drop (suc i) vs)) in
      first_same (item_floats 0 (items_view vs)) (here ++ later) g (before ∙ ap faults_of floats_left)
      (first_before here later g (first_under (float_findings (view v)) (index i) f g h k))

module _ (es : List (String Global × Value)) (e : String Global × Value) (more : List (String Global × Value))
    (before : faults_of (entry_floats (members_view es)) ≡ faults_of (entry_floats (members_view (e ∷ more)))) where
  pub plain_entry_before : plain (view e.1) ≡ true → faults_of (entry_floats (members_view es)) ≡ faults_of
      (entry_floats (members_view more))
  plain_entry_before p =
      before ∙ faultless_before (found_under (key (string_bytes e.0)) (float_findings (view e.1)))
      (entry_floats (members_view more))
      (faultless_under (key (string_bytes e.0)) (float_findings (view e.1)) (plain_clean (view e.1) p))

  pub first_float_entry : (f g : ReadFault) → FaultIn (first_found (float_findings (view e.1))) f
      → IsUnder (key (string_bytes e.0)) f g → FaultIn (first_found (entry_floats (members_view es))) g
  first_float_entry f g h k =
      let here = found_under (key (string_bytes e.0)) (float_findings (view e.1)) in
      first_same (entry_floats (members_view es)) (entry_floats (members_view (e ∷ more))) g before
      (first_before here (entry_floats (members_view more)) g (first_under (float_findings (view e.1))
      (key (string_bytes e.0)) f g h k))
