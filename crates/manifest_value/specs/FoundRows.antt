-- What is found of a form, row by row.
use Rattle.manifest_schema.specs.Prelude.{Members, Spellings, Slot, at, without, Rows, no_more, others, ◌⨾◌, entry_findings, fault, Text}
use Rattle.manifest_schema.specs.Findings.{Finding}
use Rattle.std.specs.Prelude.{ℕ, zero, suc, List, [], ◌∷◌, ◌++◌}

-- no fault is among the findings
abbrev pub HasNoFault : List Finding → Type 0
HasNoFault [] = Unit {0}
HasNoFault (fault p c ws ∷ fs) = ⊥
HasNoFault (f ∷ fs) = HasNoFault fs

-- what is found of the row at this place
abbrev pub findings_at : {A : Type 0} → ℕ → Rows A → Spellings → Slot → List Finding
findings_at zero (r ⨾ rs) names s = r.need.findings names s
findings_at (suc i) (r ⨾ rs) names s = findings_at i rs names s
findings_at _ _ names s = []

-- what is found of the rows from this place on
abbrev pub findings_from : {A : Type 0} → ℕ → Rows A → Members → List Finding
findings_from zero (r ⨾ rs) ms =
    r.need.findings r.spellings (at r.spellings ms) ++ findings_from zero rs ms
findings_from (suc i) (r ⨾ rs) ms = findings_from i rs ms
findings_from _ _ ms = []

-- what is found in the map of all other keys, if the form ends with one
abbrev pub other_findings : {A : Type 0} → List Text → Rows A → Members → List Finding
other_findings named (r ⨾ rs) ms = other_findings named rs ms
other_findings named (others get K) ms = entry_findings K.findings (without named ms)
other_findings named no_more ms = []

-- the form ends with the map of all other keys
abbrev pub IsOpen : {A : Type 0} → Rows A → Type 0
IsOpen (r ⨾ rs) = IsOpen rs
IsOpen (others get K) = Unit {0}
IsOpen no_more = ⊥
