use Rattle.manifest_schema.proofs.Values.KindLaws.{tree_sound}
use Rattle.manifest_schema.proofs.Meaning.MeaningLaws.{means_one}
use Rattle.cargo_manifest.proofs.laws.means_one.Goals as goal

pub returns : goal.returns
returns g c = means_one (tree_sound g.met.P.Schema.lawful) (tree_sound g.met.W.Schema.lawful)
