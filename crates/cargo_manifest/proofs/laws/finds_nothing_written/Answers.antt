use Rattle.manifest_schema.proofs.Values.KindLaws.{tree_sound}
use Rattle.manifest_schema.proofs.Forms.ManifestLaws.{manifest_sound}
use Rattle.manifest_schema.proofs.Meaning.OldLaws.{clean_of}
use Rattle.cargo_manifest.proofs.laws.finds_nothing_written.Goals as goal

pub returns-clause-form : goal.returns-clause-form
returns-clause-form g c =
    clean_of (manifest_sound _ _ (tree_sound g.met.P.Schema.lawful) (tree_sound g.met.W.Schema.lawful))
