-- Where faults stand: of a list, a map, a kept value, what may be inherited, a field, and a table by its rows.
use Rattle.manifest_schema.specs.Prelude.{none-some, same_Some, Data, float, string, integer, boolean, datetime, array, table, Items, no_items, item, get_item, Members, no_members, member, has_entry, Text, Path, Cause, Step, Faults, key, index, under, holds_float, Kind, faulty, item_findings, entry_findings, float_findings, item_floats, entry_floats, found_under, faults_of, among, float_at, float_in, faulty_entry, faulty_free, unfit_beside, FaultyByItems, FaultyByEntries, FaultyByFloats, FaultyBySlot, FaultyIfRequired, FaultyUnlessInherited, NeverFaulty, FaultyByRows, Spellings, first, Slot, absent, one, clash, at, without, at_value, wrong_kind, two_spellings, missing, found_here, free_findings, unused_keys, inherits, required, optional, default, lenient_optional, lenient_default, Rows, no_more, others, ◌⨾◌, spelled, findings_beside, row_findings, left_over}
use Rattle.std.proofs.Common.{◌≡◌, ◌↔◌, ℕ, zero, suc, ◌+◌, Bool, true, false, ◌⊎◌, inl, inr, List, [], ◌∷◌, Some, if◌then◌else◌, IsFalse, codes, refl, ap, ◌∙◌, true≢false, arith}
use Rattle.manifest_schema.proofs.Findings.Faultless.{no_nil, keys_none, lenient_none}
use Rattle.manifest_schema.proofs.Findings.FoundLaws.{under_to, append_to, keys_to}
use Rattle.manifest_schema.proofs.Values.KindLaws.{same}

-- of a list: the faults of its items, each with its index before the path
abbrev pub ItemFrom : ℕ → (Data → Faults) → Items → Faults
ItemFrom i F no_items p c = ⊥
ItemFrom i F (item d ds) p c = under (index i) (F d) p c ⊎ ItemFrom (suc i) F ds p c

pub items_to : {A : Type 0} (K : Kind A) (i : ℕ) (ds : Items) (p : Path) (c : Cause)
    → among (faults_of (item_findings K.findings i ds)) p c ↔ ItemFrom i (faulty K) ds p c
items_to K i no_items p c = (λ h. h, λ h. h)
items_to K i (item d ds) p c =
    let (a, b) = append_to (found_under (index i) (K.findings d)) (item_findings K.findings (suc i) ds) p c in
    let (e, f) = under_to (index i) (K.findings d) p c in
    let (g, h) = items_to K (suc i) ds p c in
    (λ x. elim (a x) [ inl y ↦ inl (e y) | inr y ↦ inr (g y) ], elim [ inl y ↦ b (inl (f y)) | inr y ↦ b (inr (h y)) ])

-- of a map: the faults of its entries, each with its key before the path
pub entries_to : {A : Type 0} (K : Kind A) (ms : Members) (p : Path) (c : Cause)
    → among (faults_of (entry_findings K.findings ms)) p c ↔ faulty_entry K ms p c
entries_to K no_members p c = (λ h. absurd h, λ f. absurd f.2)
entries_to K (member k d ms) p c =
    let (a, b) = append_to (found_under (key k) (K.findings d)) (entry_findings K.findings ms) p c in
    let (e, f) = under_to (key k) (K.findings d) p c in
    let (g, h) = entries_to K ms p c in (
      λ x. elim
          (a x) [ inl y ↦ (k, d, inl (refl, refl), e y) | inr y ↦ let (l, u, there, z) = g y in (l, u, inr there, z) ],
      λ y. b (elim y.2 [
        | inl here ↦ inl (f (rw (← here.0, ← here.1) y.3))
        | inr there ↦ inr (h (y.0, y.1, there, y.3))
      ]),
    )

no_item : (j : ℕ) (x : Data) → get_item j no_items ≡ Some x → ⊥
no_item zero x g = none-some x g
no_item (suc j) x g = none-some x g

abbrev ItemAt : ℕ → (Data → Faults) → Items → Faults
ItemAt i F ds p c = (j : ℕ) × (d : Data) × (get_item j ds ≡ Some d) × under (index (i + j)) (F d) p c

item_cases : (i : ℕ) (F : Data → Faults) (d : Data) (ds : Items) (p : Path) (c : Cause)
    → (ItemAt (suc i) F ds p c → ItemFrom (suc i) F ds p c) → (j : ℕ) (x : Data) → get_item j (item d ds) ≡ Some x
    → under (index (i + j)) (F x) p c → ItemFrom i F (item d ds) p c
item_cases i F d ds p c more zero x g b = let e : i + 0 ≡ i = omega arith in inl (rw (same_Some d x g, ← e) b)
item_cases i F d ds p c more (suc j) x g b =
    let e : i + suc j ≡ suc i + j = omega arith in inr (more (j, x, g, rw (← e) b))

items_at : (i : ℕ) (F : Data → Faults) (ds : Items) (p : Path) (c : Cause) → ItemFrom i F ds p c ↔ ItemAt i F ds p c
items_at i F no_items p c = (λ h. absurd h, λ f. no_item f.0 f.1 f.2)
items_at i F (item d ds) p c =
    let (a, b) = items_at (suc i) F ds p c in (
      elim [
        | inl b ↦ let e : i + 0 ≡ i = omega arith in (0, d, refl, rw e b)
        | inr h ↦ let f = a h in let e : i + suc f.0 ≡ suc i + f.0 = omega arith in (suc f.0, f.1, f.2, rw e f.3)
      ],
      λ f. item_cases i F d ds p c b f.0 f.1 f.2 f.3,
    )

from_zero : (F : Data → Faults) (ds : Items) (p : Path) (c : Cause)
    → ItemFrom 0 F ds p c ↔ ((j : ℕ) × (d : Data) × (get_item j ds ≡ Some d) × under (index j) (F d) p c)
from_zero F ds p c =
    let (a, b) = items_at 0 F ds p c in (
      λ h. let f = a h in let e : 0 + f.0 ≡ f.0 = omega arith in (f.0, f.1, f.2, rw (← e) f.3),
      λ f. let e : 0 + f.0 ≡ f.0 = omega arith in b (f.0, f.1, f.2, rw e f.3),
    )

pub faulty_by_items : {A : Type 0} (K : Kind A) → FaultyByItems K
faulty_by_items K ds p c =
    let (a, b) = items_to K 0 ds p c in
    let (e, f) = from_zero (faulty K) ds p c in
    (λ h. e (a h), λ h. b (f h))

pub faulty_by_entries : {A : Type 0} (K : Kind A) → FaultyByEntries K
faulty_by_entries K ms p c = entries_to K ms p c

-- of a kept value

array_at : (ds : Items) (p : Path) (c : Cause)
    → ((j : ℕ) × (d : Data) × (get_item j ds ≡ Some d) × under (index j) (float_in d) p c) ↔ float_in (array ds) p c
array_at ds p c = (λ f. rw f.3.1 ((f.1, f.2, f.3.2.0), f.3.2.1), back p)
  where
    back : (p : Path) → float_in (array ds) p c
        → (j : ℕ) × (d : Data) × (get_item j ds ≡ Some d) × under (index j) (float_in d) p c
    back [] h = absurd h.0
    back (index i ∷ q) h = (i, h.0.0, h.0.1, (q, refl, (h.0.2, h.1)))
    back (key k ∷ q) h = absurd h.0

table_at : (ms : Members) (p : Path) (c : Cause)
    → ((k : Text) × (d : Data) × has_entry k d ms × under (key k) (float_in d) p c) ↔ float_in (table ms) p c
table_at ms p c = (λ f. rw f.3.1 ((f.1, f.2, f.3.2.0), f.3.2.1), back p)
  where
    back : (p : Path) → float_in (table ms) p c
        → (k : Text) × (d : Data) × has_entry k d ms × under (key k) (float_in d) p c
    back [] h = absurd h.0
    back (index i ∷ q) h = absurd h.0
    back (key k ∷ q) h = (k, h.0.0, h.0.1, (q, refl, (h.0.2, h.1)))

none_at : (d : Data) (p : Path) → ((q : Path) → float_at q d → ⊥) → (c : Cause) → ⊥ ↔ float_in d p c
none_at d p none c = (λ h. absurd h, λ h. none p h.0)

not_there : (s : Step) (F G : Faults) (p : Path) (c : Cause) → ((q : Path) → F q c ↔ G q c)
    → under s F p c ↔ under s G p c
not_there s F G p c same = (λ h. (h.0, h.1, (same h.0).0 h.2), λ h. (h.0, h.1, (same h.0).1 h.2))

here_at : (x : _) (p : Path) (c : Cause) → among (([], holds_float) ∷ []) p c ↔ float_in (float x) p c
here_at x [] c = (elim [ inl h ↦ (tt, h.1) | inr h ↦ absurd h ], λ h. inl (refl, h.1))
here_at x (index i ∷ p) c = (elim [ inl h ↦ absurd (no_nil h.0) | inr h ↦ absurd h ], λ h. absurd h.0)
here_at x (key k ∷ p) c = (elim [ inl h ↦ absurd (no_nil h.0) | inr h ↦ absurd h ], λ h. absurd h.0)

mutual
  floats_to : (d : Data) (p : Path) (c : Cause) → among (faults_of (float_findings d)) p c ↔ float_in d p c
  floats_to (float x) p c = here_at x p c
  floats_to (array ds) p c =
      let (a, b) = item_floats_to 0 ds p c in
      let (e, f) = from_zero float_in ds p c in
      let (g, h) = array_at ds p c in
      (λ x. g (e (a x)), λ x. b (f (h x)))
  floats_to (table ms) p c =
      let (a, b) = entry_floats_to ms p c in
      let (g, h) = table_at ms p c in
      (λ x. g (a x), λ x. b (h x))
  floats_to (string s) p c = none_at (string s) p (elim [ [] ↦ λ h. h | index i ∷ q ↦ λ h. h | key k ∷ q ↦ λ h. h ]) c
  floats_to (integer s) p c = none_at (integer s) p (elim [ [] ↦ λ h. h | index i ∷ q ↦ λ h. h | key k ∷ q ↦ λ h. h ]) c
  floats_to (boolean s) p c = none_at (boolean s) p (elim [ [] ↦ λ h. h | index i ∷ q ↦ λ h. h | key k ∷ q ↦ λ h. h ]) c
  floats_to (datetime s) p c =
      none_at (datetime s) p (elim [ [] ↦ λ h. h | index i ∷ q ↦ λ h. h | key k ∷ q ↦ λ h. h ]) c

  item_floats_to : (i : ℕ) (ds : Items) (p : Path) (c : Cause)
      → among (faults_of (item_floats i ds)) p c ↔ ItemFrom i float_in ds p c
  item_floats_to i no_items p c = (λ h. h, λ h. h)
  item_floats_to i (item d ds) p c =
      let (a, b) = append_to (found_under (index i) (float_findings d)) (item_floats (suc i) ds) p c in
      let (e, f) = under_to (index i) (float_findings d) p c in
      let (m, n) = not_there (index i) (among (faults_of (float_findings d))) (float_in d) p c (λ q. floats_to d q c) in
      let (g, h) = item_floats_to (suc i) ds p c in (
        λ x. elim (a x) [ inl y ↦ inl (m (e y)) | inr y ↦ inr (g y) ],
        elim [ inl y ↦ b (inl (f (n y))) | inr y ↦ b (inr (h y)) ],
      )

  entry_floats_to : (ms : Members) (p : Path) (c : Cause)
      → among (faults_of (entry_floats ms)) p c
      ↔ ((k : Text) × (d : Data) × has_entry k d ms × under (key k) (float_in d) p c)
  entry_floats_to no_members p c = (λ h. absurd h, λ f. absurd f.2)
  entry_floats_to (member k d ms) p c =
      let (a, b) = append_to (found_under (key k) (float_findings d)) (entry_floats ms) p c in
      let (e, f) = under_to (key k) (float_findings d) p c in
      let (m, n) = not_there (key k) (among (faults_of (float_findings d))) (float_in d) p c (λ q. floats_to d q c) in
      let (g, h) = entry_floats_to ms p c in (
        λ x. elim
            (a x) [
              | inl y ↦ (k, d, inl (refl, refl), m (e y))
              | inr y ↦ let (l, u, there, z) = g y in (l, u, inr there, z)
            ],
        λ y. b (elim y.2 [
          | inl here ↦ inl (f (n (rw (← here.0, ← here.1) y.3)))
          | inr there ↦ inr (h (y.0, y.1, there, y.3))
        ]),
      )

pub faulty_by_floats : FaultyByFloats
faulty_by_floats d p c = floats_to d p c

-- of a field
here_only : (s : Step) (e : Cause) (p : Path) (c : Cause)
    → among (faults_of (found_under s (found_here e))) p c ↔ under s (at_value e) p c
here_only s e p c =
    (elim [ inl h ↦ ([], h.0, (refl, h.1)) | inr h ↦ absurd h ], λ h. inl (h.1 ∙ ap (λ q. s ∷ q) h.2.0, h.2.1))

module _ {B : Type 0} (K : Kind B) where
  free_faults : (names : Spellings) (s : Slot) (p : Path) (c : Cause)
      → among (faults_of (free_findings names K.findings s)) p c ↔ faulty_free names K s p c
  free_faults names absent p c = same
  free_faults names clash p c = here_only (key (first names)) two_spellings p c
  free_faults names (one k d) p c = under_to (key k) (K.findings d) p c

  pub optional_faulty : FaultyBySlot K (optional K)
  optional_faulty = free_faults

  pub default_faulty : (e : B) (skipped : B → Bool) → FaultyBySlot K (default K e skipped)
  default_faulty e skipped = free_faults

  pub required_faulty : FaultyIfRequired K (required K)
  required_faulty names absent p c = here_only (key (first names)) missing p c
  required_faulty names clash p c = here_only (key (first names)) two_spellings p c
  required_faulty names (one k d) p c = under_to (key k) (K.findings d) p c

  pub lenient_optional_never : NeverFaulty (lenient_optional K)
  lenient_optional_never names s = lenient_none (free_findings names K.findings s)

  pub lenient_default_never : (e : B) → NeverFaulty (lenient_default K e)
  lenient_default_never e names s = lenient_none (free_findings names K.findings s)

-- of what may be inherited
inherited_to : (b : Bool) (ms : Members) (p : Path) (c : Cause)
    → among (faults_of (if b then unused_keys ms else found_here wrong_kind)) p c
    ↔ (IsFalse b × at_value wrong_kind p c)
inherited_to true ms p c = (λ h. absurd (rw (keys_none ms) at h), λ f. absurd (true≢false f.0))
inherited_to false ms p c = (elim [ inl h ↦ (refl, h) | inr h ↦ absurd h ], λ f. inl f.1)

pub faulty_unless_inherited : {A : Type 0} (K : Kind A) → FaultyUnlessInherited K
faulty_unless_inherited K ms p c = inherited_to (inherits (table ms)) (without (codes "workspace" ∷ []) ms) p c

-- of a table, by its rows
rows_to : {A : Type 0} (named : List Text) (rows : Rows A) (ms : Members) (p : Path) (c : Cause)
    → among (faults_of (findings_beside named rows ms)) p c ↔ unfit_beside named rows ms p c
rows_to named no_more ms p c = (λ h. h, λ h. h)
rows_to named (others get K) ms p c = entries_to K (without named ms) p c
rows_to named (r ⨾ rs) ms p c =
    let (a, b) = append_to (r.need.findings r.spellings (at r.spellings ms)) (findings_beside named rs ms) p c in
    let (g, h) = rows_to named rs ms p c in
    (λ x. elim (a x) [ inl y ↦ inl y | inr y ↦ inr (g y) ], elim [ inl y ↦ b (inl y) | inr y ↦ b (inr (h y)) ])

pub faulty_by_rows : {A : Type 0} (rows : Rows A) → FaultyByRows rows
faulty_by_rows rows ms p c =
    let (a, b) = keys_to (row_findings rows ms) (left_over rows ms) p c in
    let (g, h) = rows_to (spelled rows) rows ms p c in
    (λ x. g (a x), λ x. b (h x))
