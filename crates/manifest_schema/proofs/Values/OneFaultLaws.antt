-- Choices and whole numbers have at most one fault.
use Rattle.manifest_schema.specs.Prelude.{Data, string, integer, Path, Cause, wrong_kind, not_a_choice, out_of_range, choice, choice_findings, faulty, faults_of, among, whole, within, Text}
use Rattle.std.proofs.Common.{◌≡◌, ℤ, Bool, true, false, inl, inr, if◌then◌else◌, is_some, List, [], Option, refl, sym, ap}
use Rattle.manifest_schema.specs.Kinds.{reads_whole, whole_findings}
use Rattle.manifest_schema.specs.OneFault.{HasOneFault, fault_here}

alone : (words : List Text) (b : Bool) (c e : Cause) (p : Path)
    → among (faults_of (if b then [] else fault_here words c)) p e
    → (if b then [] else fault_here words c) ≡ fault_here words e
alone words true c e p h = absurd h
alone words false c e p (inl here) = ap (fault_here words) (sym here.1)
alone words false c e p (inr none) = absurd none

module _ {A : Type 0} (words : List Text) (meaning : Data → Option A) (written : A → Data) where
  choice_alone : (d : Data) (p : Path) (c : Cause) → faulty (choice words meaning written) d p c
      → choice_findings words meaning d ≡ fault_here words c
  choice_alone (string s) p c f = alone words (is_some (meaning (string s))) not_a_choice c p f
  choice_alone d p c f = alone words (is_some (meaning d)) wrong_kind c p f

  pub choice_one_fault : HasOneFault (choice words meaning written) words
  choice_one_fault = record { none = λ d x r. rw r refl; alone = choice_alone }

module _ (low high : ℤ) where
  whole_none : (d : Data) (x : ℤ) → reads_whole low high d x → whole_findings low high d ≡ []
  whole_none (integer z) x r = rw r.1 refl
  whole_none _ x r = absurd r

  whole_alone : (d : Data) (p : Path) (c : Cause) → faulty (whole low high) d p c
      → whole_findings low high d ≡ fault_here [] c
  whole_alone (integer z) p c f = alone [] (within low high z) out_of_range c p f
  whole_alone d p c f = alone [] false wrong_kind c p f

  pub whole_one_fault : HasOneFault (whole low high) []
  whole_one_fault = record { none = whole_none; alone = whole_alone }
