use Rattle.manifest_schema.proofs.Values.KindLaws.{tree_sound}
use Rattle.manifest_schema.proofs.Meaning.MeaningLaws.{same_exactly}
use Rattle.cargo_manifest.proofs.laws.same_exactly.Goals as goal

pub returns : goal.returns
returns g c = same_exactly (tree_sound g.met.P.Schema.lawful) (tree_sound g.met.W.Schema.lawful)
