-- What is found row by row, and then in the map of all other keys or under the keys that no row has.
use Rattle.manifest_schema.specs.Prelude.{Data, Kind, Members, no_members, table, Text, Spellings, Slot, at, Rows, no_more, others, ◌⨾◌, without, spelled, findings_beside, left_beside, form_findings, unused_keys, Path, Cause as SchemaCause, faults_of, among, foremost, first_found}
use Rattle.manifest_schema.specs.OneFault.{HasOneFault}
use Rattle.std.proofs.Common.{◌≡◌, ℕ, zero, suc, List, [], ◌∷◌, ◌++◌, refl, sym, ap, ap₂, ◌∙◌, drop, append_assoc, append-nil, inl}
use Rattle.manifest_value.specs.FormRows.{many, AreAll}
use Rattle.manifest_fault.specs.Found.{found, IsFoundHere}
use Rattle.manifest_value.specs.FoundRows.{findings_at, findings_from, other_findings, IsOpen}
use Rattle.manifest_fault.specs.Faults.{FaultIn, path_of, cause_of}
use Rattle.manifest_fault.specs.declared.fault.ReadFault.{ReadFault}
use Rattle.manifest_fault.specs.declared.fault.ReadFault.TheVariants.{Schema, Memory}
use Rattle.manifest_fault.specs.declared.findings.Findings.{Findings}
use Rattle.manifest_fault.specs.declared.schema_findings.Finding.{Finding}
use Rattle.manifest_value.specs.Walks.{names_of, slots_at}
use Rattle.manifest_value.proofs.FormLemmas.{head_is, no_cons}

-- one row more
pub one_found : {A : Type 0} (rows : Rows A) (i : ℕ) (ms : Members) (name : Spellings) (names : List Spellings)
    (s : Slot) (slots : List Slot)
    → drop i (names_of rows) ≡ name ∷ names → drop i (slots_at (names_of rows) ms) ≡ s ∷ slots → findings_from i rows
    ms ≡ findings_at i rows name s ++ findings_from (suc i) rows ms
one_found (r ⨾ rs) zero ms name names s slots n e = ap (λ x. x ++ findings_from zero rs ms)
    (ap₂ (λ x y. r.need.findings x y) (head_is n) (head_is e))
one_found (r ⨾ rs) (suc i) ms name names s slots n e = one_found rs i ms name names s slots n e
one_found (others get K) i ms name names s slots n e = absurd (no_names i n)
  where
    no_names : (i : ℕ) → drop i [] ≡ name ∷ names → ⊥
    no_names zero x = no_cons x
    no_names (suc i) x = no_cons x
one_found no_more i ms name names s slots n e = absurd (no_names i n)
  where
    no_names : (i : ℕ) → drop i [] ≡ name ∷ names → ⊥
    no_names zero x = no_cons x
    no_names (suc i) x = no_cons x

-- no row is left
pub none_found : {A : Type 0} (rows : Rows A) (ms : Members) → findings_from (many rows) rows ms ≡ []
none_found (r ⨾ rs) ms = none_found rs ms
none_found (others get K) ms = refl
none_found no_more ms = refl

-- all rows, and then the map of all other keys
pub rows_found : {A : Type 0} (rows : Rows A) (named : List Text) (ms : Members) → findings_from zero rows ms
    ++ other_findings named rows ms ≡ findings_beside named rows ms
rows_found (r ⨾ rs) named ms =
    let first = r.need.findings r.spellings (at r.spellings ms) in
    append_assoc first (findings_from zero rs ms) (other_findings named rs ms) ∙ ap (λ x. first ++ x)
    (rows_found rs named ms)
rows_found (others get K) named ms = refl
rows_found no_more named ms = refl

-- a form all of whose keys are rows
none_other : {A : Type 0} (rows : Rows A) (named : List Text) (ms : Members) → AreAll rows → other_findings named rows
    ms ≡ []
none_other (r ⨾ rs) named ms a = none_other rs named ms a
none_other (others get K) named ms a = absurd a
none_other no_more named ms a = refl

pub left_closed : {A : Type 0} (rows : Rows A) (named : List Text) (ms : Members) → AreAll rows → left_beside named rows
    ms ≡ without named ms
left_closed (r ⨾ rs) named ms a = left_closed rs named ms a
left_closed (others get K) named ms a = absurd a
left_closed no_more named ms a = refl

pub closed_rows_found : {A : Type 0} (rows : Rows A) (ms : Members) → AreAll rows → findings_from zero rows
    ms ≡ findings_beside (spelled rows) rows ms
closed_rows_found rows ms a =
    sym (append-nil (findings_from zero rows ms)) ∙ ap (λ x. findings_from zero rows ms ++ x)
    (sym (none_other rows (spelled rows) ms a)) ∙ rows_found rows (spelled rows) ms

-- a form that ends in the map of all other keys
left_open : {A : Type 0} (rows : Rows A) (named : List Text) (ms : Members) → IsOpen rows → left_beside named rows
    ms ≡ no_members
left_open (r ⨾ rs) named ms o = left_open rs named ms o
left_open (others get K) named ms o = refl
left_open no_more named ms o = absurd o

pub open_found : {A : Type 0} (rows : Rows A) (ms : Members) → IsOpen rows → findings_from zero rows ms
    ++ other_findings (spelled rows) rows ms ≡ form_findings rows (table ms)
open_found rows ms o =
    rows_found rows (spelled rows) ms ∙ sym (append-nil (findings_beside (spelled rows) rows ms))
    ∙ ap (λ x. findings_beside (spelled rows) rows ms ++ unused_keys x) (sym (left_open rows (spelled rows) ms o))

-- THE FIRST FAULT is one of them
pub foremost_among : (fs : List (Path × SchemaCause)) (p : Path) (c : SchemaCause) → foremost fs p c → among fs p c
foremost_among (f ∷ fs) p c h = inl h
foremost_among [] p c h = h

-- ONE FAULT AT MOST: a value that is read has no finding, and one that is refused has that fault alone
pub one_fault_read : {A : Type 0} {K : Kind A} {words : List Text} → HasOneFault K words → (d : Data) (x : A)
    → K.reads d x → [] ≡ K.findings d
one_fault_read h d x r = sym (h.none d x r)

pub one_fault_refused : {A : Type 0} {K : Kind A} {words : List Text} → HasOneFault K words
    → (d : Data) (e : ReadFault) (fs : Findings Finding) → FaultIn (first_found (K.findings d)) e
    → IsFoundHere words e fs
    → found fs ≡ K.findings d
one_fault_refused {K = K} h d (Schema f) fs stands alone =
    let is_fault = foremost_among (faults_of (K.findings d)) (path_of f.path) (cause_of f.cause) stands in
    alone ∙ sym (h.alone d (path_of f.path) (cause_of f.cause) is_fault)
one_fault_refused h d (Memory e) fs stands alone = absurd alone
