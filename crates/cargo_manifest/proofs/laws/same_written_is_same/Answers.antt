use Rattle.manifest_schema.proofs.Values.KindLaws.{tree_sound}
use Rattle.manifest_schema.proofs.Meaning.MeaningLaws.{same_written_is_same}
use Rattle.cargo_manifest.proofs.laws.same_written_is_same.Goals as goal

pub returns : goal.returns
returns g c = same_written_is_same (tree_sound g.met.P.Schema.lawful) (tree_sound g.met.W.Schema.lawful)
