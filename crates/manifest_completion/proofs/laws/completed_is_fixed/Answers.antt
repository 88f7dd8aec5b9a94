use Rattle.manifest_schema.specs.Kinds.{tree_of}
use Rattle.manifest_schema.proofs.Values.KindLaws.{tree_sound}
use Rattle.manifest_completion.proofs.CompletedLaws.{completed_fixed}
use Rattle.manifest_completion.proofs.laws.completed_is_fixed.Goals as goal

pub returns : goal.returns
returns g c =
    completed_fixed (tree_of g.P.AnyKind.kind) (tree_of g.W.AnyKind.kind) (tree_sound g.met.P.SoundKind.sound)
    (tree_sound g.met.W.SoundKind.sound)
