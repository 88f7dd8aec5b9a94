use Rattle.manifest_schema.specs.Prelude.{Bor, view, Text, Manifest}
use Rattle.std.proofs.Common.{Option, Some, None}
use Rattle.cargo_manifest.specs.Whole.{manifest_content}
use Rattle.manifest_command.specs.Run.{MayPrint, IsFileOf, IsFinishedBy}
use Rattle.manifest_command.specs.Words.{completes_by}
use Rattle.manifest_command.proofs.files.finished_manifest.Goals as goal

given : (root : Option (Bor Text)) (m n : Manifest) → IsFileOf m → IsFinishedBy root m n → MayPrint (completes_by root)
    n
given None m n is h = (m, is, h)
given (Some r) m n is (root, of_file, h) = (m, is, root, of_file, h)

pub returns-in-Ok-finish_at : goal.returns-in-Ok-finish_at
returns-in-Ok-finish_at g c =
    given c.args.root (manifest_content view view c.in-Ok.manifest) (manifest_content view view
    c.finish_at.new.manifest) c.in-Ok.ensures c.in-Ok-finish_at.ensures
