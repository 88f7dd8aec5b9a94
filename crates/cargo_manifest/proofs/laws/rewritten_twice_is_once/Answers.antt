use Rattle.manifest_schema.proofs.Values.KindLaws.{tree_sound}
use Rattle.manifest_schema.proofs.Meaning.MeaningLaws.{rewritten_twice_is_once}
use Rattle.cargo_manifest.proofs.laws.rewritten_twice_is_once.Goals as goal

pub returns : goal.returns
returns g c = rewritten_twice_is_once (tree_sound g.met.P.Schema.lawful) (tree_sound g.met.W.Schema.lawful)
