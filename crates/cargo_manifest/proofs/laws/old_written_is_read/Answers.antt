use Rattle.manifest_schema.proofs.Values.KindLaws.{tree_sound}
use Rattle.manifest_schema.proofs.Meaning.FormerLaws.{old_written_is_read}
use Rattle.cargo_manifest.proofs.laws.old_written_is_read.Goals as goal

pub returns : goal.returns
returns g c = old_written_is_read (tree_sound g.met.P.Schema.lawful) (tree_sound g.met.W.Schema.lawful)
