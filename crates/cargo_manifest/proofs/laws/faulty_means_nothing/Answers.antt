use Rattle.manifest_schema.proofs.Values.KindLaws.{tree_sound}
use Rattle.manifest_schema.proofs.Findings.FoundLaws.{faulty_means_nothing}
use Rattle.cargo_manifest.proofs.laws.faulty_means_nothing.Goals as goal

pub returns : goal.returns
returns g c = faulty_means_nothing (tree_sound g.met.P.Schema.lawful) (tree_sound g.met.W.Schema.lawful)
