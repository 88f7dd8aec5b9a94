use Rattle.manifest_schema.proofs.Values.KindLaws.{tree_sound}
use Rattle.manifest_schema.proofs.Findings.FoundLaws.{accepted_or_faulty}
use Rattle.cargo_manifest.proofs.laws.accepted_or_faulty.Goals as goal

pub returns : goal.returns
returns g c = accepted_or_faulty (tree_sound g.met.P.Schema.lawful) (tree_sound g.met.W.Schema.lawful)
