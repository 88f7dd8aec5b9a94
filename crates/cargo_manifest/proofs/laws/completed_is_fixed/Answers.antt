use Rattle.manifest_schema.specs.Kinds.{tree_of}
use Rattle.manifest_schema.proofs.Values.KindLaws.{tree_sound}
use Rattle.manifest_completion.proofs.CompletedLaws.{completed_fixed}
use Rattle.cargo_manifest.proofs.laws.completed_is_fixed.Goals as goal

pub returns : goal.returns
returns g c =
    completed_fixed (tree_of g.P.Schema.kind) (tree_of g.W.Schema.kind) (tree_sound g.met.P.Schema.lawful)
    (tree_sound g.met.W.Schema.lawful)
