-- The first fault that is found: one step further out, and after findings without a fault.
use Rattle.manifest_schema.specs.Prelude.{no_fault, table, Data, Items, no_items, item, Members, no_members, member, Text, Path, Cause as SchemaCause, Step, key, index, Spellings, Slot, IsSound, Kind, Entries, Rows, spelled, left_over, findings_beside, fault, ignored, unused, unused_keys, faults_of, among, foremost, first_found, found_under, leniently, IsFaultless, item_findings, entry_findings, form_findings, plain, raw}
use Rattle.manifest_schema.specs.Findings.{Finding}
use Rattle.std.proofs.Common.{◌≡◌, ℕ, suc, true, List, [], ◌∷◌, ◌++◌, Result, Ok, Err, OnOk, IfErr, refl, sym, ap, ◌∙◌, subst, length, ◌+◌, arith, drop}
use Rattle.manifest_schema.proofs.Findings.Faultless.{lenient_none, faults-append}
use Rattle.manifest_schema.proofs.Values.KindLaws.{raw_sound}
use Rattle.manifest_schema.specs.Kinds.{map_findings, float_findings}
use Rattle.manifest_value.specs.Entries.{reads_first}
use Rattle.manifest_fault.specs.Faults.{FaultIn, IsUnder, no_table}
use Rattle.manifest_value.specs.FormRows.{AreAll}
use Rattle.manifest_value.specs.FoundRows.{HasNoFault, findings_at, findings_from}
use Rattle.manifest_value.specs.Reading.{GivesOr, GivesRow}
use Rattle.manifest_value.specs.Walks.{names_of, slots_at}
use Rattle.manifest_fault.specs.declared.fault.ReadFault.{ReadFault}
use Rattle.manifest_fault.specs.declared.fault.ReadFault.TheVariants.{Schema, Memory}
use Rattle.manifest_fault.proofs.Under.{fault_weaker}
use Rattle.manifest_value.proofs.FoundLemmas.{one_found, closed_rows_found, foremost_among}
use Rattle.manifest_value.proofs.ReadingLemmas.{reads_first_items}

-- ONE STEP FURTHER OUT
foremost_under : (fs : List Finding) (s : Step) (p q : Path) (c e : SchemaCause) → foremost (faults_of fs) p c → q ≡ s
    ∷ p → e ≡ c → foremost (faults_of (found_under s fs)) q e
foremost_under [] s p q c e h k l = absurd h
foremost_under (fault r f ws ∷ fs) s p q c e h k l = (k ∙ ap (λ r. s ∷ r) h.0, l ∙ h.1)
foremost_under (ignored r f ws ∷ fs) s p q c e h k l = foremost_under fs s p q c e h k l
foremost_under (unused r ∷ fs) s p q c e h k l = foremost_under fs s p q c e h k l

-- the fault g is f one step further out
pub first_under : (fs : List Finding) (s : Step) (f g : ReadFault) → FaultIn (first_found fs) f → IsUnder s f g
    → FaultIn (first_found (found_under s fs)) g
first_under fs s f (Memory e) h k = tt
first_under fs s (Memory e) (Schema g) h k = absurd k
first_under fs s (Schema f) (Schema g) h k = foremost_under fs s _ _ _ _ h k.0 k.1

-- THE FIRST FAULT is one of them
pub first_is_fault : (fs : List Finding) (f : ReadFault) → FaultIn (first_found fs) f → FaultIn (among (faults_of fs)) f
first_is_fault fs f h = fault_weaker (first_found fs) (among (faults_of fs)) f (foremost_among (faults_of fs)) h

-- A RESULT that is one of P is one of Q, and its fault is the first of others too
pub gives_weaker : {X : Type 0} (P Q : X → Type 0) (fs gs : List Finding) (r : Result X ReadFault)
    → ((x : X) → P x → Q x) → ((f : ReadFault) → FaultIn (first_found fs) f → FaultIn (first_found gs) f)
    → GivesOr P fs r → GivesOr Q gs r
gives_weaker P Q fs gs (Ok x) w v h = w x h
gives_weaker P Q fs gs (Err f) w v h = v f h

-- AFTER FINDINGS WITHOUT A FAULT
no_cons : {X : Type 0} {x : X} {xs : List X} → x ∷ xs ≡ [] → ⊥
no_cons e = cc

pub faultless_before : (fs gs : List Finding) → IsFaultless fs → faults_of (fs ++ gs) ≡ faults_of gs
faultless_before fs gs e = faults-append fs gs ∙ ap (λ x. x ++ faults_of gs) e

pub faultless_under : (s : Step) (fs : List Finding) → IsFaultless fs → IsFaultless (found_under s fs)
faultless_under s [] e = refl
faultless_under s (fault p c ws ∷ fs) e = absurd (no_cons e)
faultless_under s (ignored p c ws ∷ fs) e = faultless_under s fs e
faultless_under s (unused p ∷ fs) e = faultless_under s fs e

-- the first fault of the former findings is that of all
pub first_before : (fs gs : List Finding) (f : ReadFault) → FaultIn (first_found fs) f
    → FaultIn (first_found (fs ++ gs)) f
first_before fs gs (Memory e) h = tt
first_before [] gs (Schema f) h = absurd h
first_before (fault p c ws ∷ fs) gs (Schema f) h = h
first_before (ignored p c ws ∷ fs) gs (Schema f) h = first_before fs gs (Schema f) h
first_before (unused p ∷ fs) gs (Schema f) h = first_before fs gs (Schema f) h

pub first_same : (fs gs : List Finding) (f : ReadFault) → faults_of fs ≡ faults_of gs → FaultIn (first_found gs) f
    → FaultIn (first_found fs) f
first_same fs gs f e h = subst (λ t. FaultIn (foremost t) f) (sym e) h

-- where the former ones have no fault, it is that of the latter
pub first_after : (fs gs : List Finding) (f : ReadFault) → IsFaultless fs → FaultIn (first_found gs) f
    → FaultIn (first_found (fs ++ gs)) f
first_after fs gs f e h = first_same (fs ++ gs) gs f (faultless_before fs gs e) h

-- WHAT IS READ has no fault
pub read_clean : {A : Type 0} (K : Kind A) → IsSound K → (d : Data) (x : A) → K.reads d x → IsFaultless (K.findings d)
read_clean K L d x r = (L.decided d).1 (x, r)

-- the same, said without an equation
pub none_faultless : (fs : List Finding) → HasNoFault fs → IsFaultless fs
none_faultless [] h = refl
none_faultless (fault p c ws ∷ fs) h = absurd h
none_faultless (ignored p c ws ∷ fs) h = none_faultless fs h
none_faultless (unused p ∷ fs) h = none_faultless fs h

faultless_none : (fs : List Finding) → IsFaultless fs → HasNoFault fs
faultless_none [] e = tt
faultless_none (fault p c ws ∷ fs) e = absurd (no_cons e)
faultless_none (ignored p c ws ∷ fs) e = faultless_none fs e
faultless_none (unused p ∷ fs) e = faultless_none fs e

pub none_under : (s : Step) (fs : List Finding) → HasNoFault fs → HasNoFault (found_under s fs)
none_under s fs h = faultless_none (found_under s fs) (faultless_under s fs (none_faultless fs h))

pub none_read : {A : Type 0} (K : Kind A) → IsSound K → (d : Data) (x : A) → K.reads d x → HasNoFault (K.findings d)
none_read K L d x r = faultless_none (K.findings d) (read_clean K L d x r)

pub none_lenient : (fs : List Finding) → HasNoFault (leniently fs)
none_lenient fs = faultless_none (leniently fs) (lenient_none fs)

-- a row whose faults are ignored has none: for the `read_row` of a form with such rows
pub lenient_clean : {X E : Type 0} (r : Result X E) (fs : List Finding) → OnOk r (HasNoFault (leniently fs))
lenient_clean (Ok x) fs = none_lenient fs
lenient_clean (Err e) fs = tt

-- and it fails only as out of memory, which stands for any fault
pub lenient_gives : {X : Type 0} (P : Type 0) (find : Spellings → List Finding) (w : Text) (r : Result X ReadFault)
    → OnOk r P → IfErr r (FaultIn no_fault) → GivesRow P find w r
lenient_gives P find w (Ok x) h k = h
lenient_gives P find w (Err (Schema f)) h k = absurd k
lenient_gives P find w (Err (Memory e)) h k = λ names is. tt

pub ruleset lenient_rows = (lenient_clean, lenient_gives)

-- for a reader that puts a step before a fault's path
pub ruleset step_laws = (first_under, none_under, none_read)

-- ITEMS and ENTRIES: those before are read
module _ {A : Type 0} (K : Kind A) (L : IsSound K) where
  items_before : (ds : Items) (xs : List A) (i : ℕ) (rest : Items) → reads_first_items K ds xs rest
      → faults_of (item_findings K.findings i ds) ≡ faults_of (item_findings K.findings (length xs + i) rest)
  items_before ds [] i rest h =
      let n : i ≡ 0 + i = omega arith in
      ap (λ t. faults_of (item_findings K.findings i t)) h ∙ ap (λ n. faults_of (item_findings K.findings n rest)) n
  items_before no_items (x ∷ xs) i rest h = absurd h
  items_before (item d ds) (x ∷ xs) i rest h =
      let n : length xs + suc i ≡ length (x ∷ xs) + i = omega arith in
      faultless_before (found_under (index i) (K.findings d)) (item_findings K.findings (suc i) ds)
      (faultless_under (index i) (K.findings d) (read_clean K L d x h.0))
      ∙ items_before ds xs (suc i) rest h.1 ∙ ap (λ n. faults_of (item_findings K.findings n rest)) n

  pub first_item : (ds : Items) (xs : List A) (d : Data) (rest : Items) (f : ReadFault) → reads_first_items K ds xs
      (item d rest)
      → FaultIn (first_found (found_under (index (length xs)) (K.findings d))) f
      → FaultIn (first_found (item_findings K.findings 0 ds)) f
  first_item ds xs d rest f h reported =
      let n : length xs + 0 ≡ length xs = omega arith in
      first_same (item_findings K.findings 0 ds) (item_findings K.findings (length xs) (item d rest)) f
      (items_before ds xs 0 (item d rest) h ∙ ap (λ n. faults_of (item_findings K.findings n (item d rest))) n)
      (first_before (found_under (index (length xs)) (K.findings d)) (item_findings K.findings (suc (length xs)) rest) f
      reported)

  entries_before : (ms : Members) (es : Entries A) (rest : Members) → reads_first K ms es rest
      → faults_of (entry_findings K.findings ms) ≡ faults_of (entry_findings K.findings rest)
  entries_before ms [] rest h = ap (λ t. faults_of (entry_findings K.findings t)) h
  entries_before no_members (e ∷ es) rest h = absurd h
  entries_before (member k d ms) (e ∷ es) rest h =
      faultless_before (found_under (key k) (K.findings d)) (entry_findings K.findings ms)
      (faultless_under (key k) (K.findings d) (read_clean K L d e.1 h.1)) ∙ entries_before ms es rest h.2

  pub first_entry : (ms : Members) (es : Entries A) (k : Text) (d : Data) (rest : Members) (f : ReadFault)
      → reads_first K ms es (member k d rest)
      → FaultIn (first_found (found_under (key k) (K.findings d))) f
      → FaultIn (first_found (entry_findings K.findings ms)) f
  first_entry ms es k d rest f h reported =
      first_same (entry_findings K.findings ms) (entry_findings K.findings (member k d rest)) f
      (entries_before ms es (member k d rest) h)
      (first_before (found_under (key k) (K.findings d)) (entry_findings K.findings rest) f reported)

-- ROW BY ROW
module _ {A : Type 0} (rows : Rows A) (i : ℕ) (ms : Members) (name : Spellings) (names : List Spellings) (s : Slot)
    (slots : List Slot)
    (n : drop i (names_of rows) ≡ name ∷ names) (e : drop i (slots_at (names_of rows) ms) ≡ s ∷ slots) where
  pub row_before : IsFaultless (findings_at i rows name s) → faults_of (findings_from i rows ms) ≡ faults_of
      (findings_from (suc i) rows ms)
  row_before h = ap faults_of (one_found rows i ms name names s slots n e)
      ∙ faultless_before (findings_at i rows name s) (findings_from (suc i) rows ms) h

  pub first_row : (f : ReadFault) → faults_of (findings_from 0 rows ms) ≡ faults_of (findings_from i rows ms)
      → FaultIn (first_found (findings_at i rows name s)) f → FaultIn (first_found (findings_from 0 rows ms)) f
  first_row f before h =
      first_same (findings_from 0 rows ms) (findings_at i rows name s ++ findings_from (suc i) rows ms) f
      (before ∙ ap faults_of (one_found rows i ms name names s slots n e)) (first_before (findings_at i rows name s)
      (findings_from (suc i) rows ms) f h)

-- all rows of a form
pub first_of_form : {A : Type 0} (rows : Rows A) (ms : Members) (f : ReadFault) → AreAll rows
    → FaultIn (first_found (findings_from 0 rows ms)) f → FaultIn (first_found (form_findings rows (table ms))) f
first_of_form rows ms f a h =
    first_before (findings_beside (spelled rows) rows ms) (unused_keys (left_over rows ms)) f
    (subst (λ t. FaultIn (first_found t) f) (closed_rows_found rows ms a) h)

-- A VALUE THAT IS NO TABLE is refused by each form, and by each map
pub form_first : {A : Type 0} (rows : Rows A) (d : Data) (f : ReadFault) → FaultIn (no_table d) f
    → FaultIn (first_found (form_findings rows d)) f
form_first rows d (Memory e) h = tt
form_first rows (table ms) (Schema f) h = absurd h
form_first rows _ (Schema f) h = h

pub map_first : (find : Data → List Finding) (d : Data) (f : ReadFault) → FaultIn (no_table d) f
    → FaultIn (first_found (map_findings find d)) f
map_first find d (Memory e) h = tt
map_first find (table ms) (Schema f) h = absurd h
map_first find _ (Schema f) h = h

-- FLOATS: a value without one has no fault
pub plain_clean : (d : Data) → plain d ≡ true → IsFaultless (float_findings d)
plain_clean d h = read_clean raw raw_sound d d (refl, h)
