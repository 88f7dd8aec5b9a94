use Rattle.manifest_schema.specs.Prelude.{Data, Kind, Inheritable, inherited, local, inherits, inh, good_inh, IsSound, IsPlain}
use Rattle.std.proofs.Common.{◌≡◌, true}
use Rattle.manifest_schema.proofs.Values.KindLaws.{inh_sound}
use Rattle.manifest_schema.proofs.Meaning.OldLaws.{lawful_of}
use Rattle.manifest_parts.proofs.inherited.inherited_is_lawful.Goals as goal

-- each content of what may be inherited is well-formed
all_good : {A : Type 0} (K : Kind A) → IsPlain K → (x : Inheritable A) → good_inh K x
all_good K p inherited = tt
all_good K p (local x) = p.all_good x

-- the two cases have no value in common
two_cases : {A : Type 0} (K : Kind A) → IsSound (inh K) → (d : Data) (x : A) → inherits d ≡ true → K.reads d x → ⊥
two_cases K l d x e r = let same : inherited ≡ local x = l.single d inherited (local x) e r in cc

pub returns-clause-one_reading : goal.returns-clause-one_reading
returns-clause-one_reading g c = (inh_sound g.met.T.Schema.lawful g.met.T.Plain.plain).single

pub returns-clause-no_reading_with_a_fault : goal.returns-clause-no_reading_with_a_fault
returns-clause-no_reading_with_a_fault g c = (lawful_of (inh_sound g.met.T.Schema.lawful g.met.T.Plain.plain)).apart

pub returns-clause-read_back : goal.returns-clause-read_back
returns-clause-read_back g c = λ x.
    ((inh_sound g.met.T.Schema.lawful g.met.T.Plain.plain).back x (all_good g.T.Schema.kind g.met.T.Plain.plain x)).0

pub returns-clause-inherited_or_local : goal.returns-clause-inherited_or_local
returns-clause-inherited_or_local g c = two_cases g.T.Schema.kind (inh_sound g.met.T.Schema.lawful g.met.T.Plain.plain)
