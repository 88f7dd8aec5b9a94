use Rattle.manifest_schema.proofs.Values.KindLaws.{tree_sound}
use Rattle.manifest_schema.proofs.Findings.UnusedLaws.{same_without_unused}
use Rattle.cargo_manifest.proofs.laws.same_without_unused.Goals as goal

pub returns : goal.returns
returns g c = same_without_unused (tree_sound g.met.P.Schema.lawful) (tree_sound g.met.W.Schema.lawful)
