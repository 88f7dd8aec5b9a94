use Rattle.manifest_schema.specs.Prelude.{on_ok_weaker, view}
use Rattle.std.proofs.Common.{Some}
use Rattle.cargo_manifest.specs.Whole.{manifest_content}
use Rattle.manifest_command.specs.Run.{IsFinished, IsFinishedBy}
use Rattle.manifest_command.proofs.files.finish_at.Goals as goal

pub returns-in-Ok : goal.returns-in-Ok
returns-in-Ok g c =
    let root = manifest_content view view c.in-Ok.root in
    let old = manifest_content view view c.args.manifest.now in
    let new = manifest_content view view c.finish_in-finished.new.manifest in
    let by_root : IsFinished (Some root) old new → IsFinishedBy (Some c.in-Some.root) old new =
    λ h. (root, c.in-Ok.ensures, h) in
    rw c.in-Some.is (on_ok_weaker _ by_root c.finish_in-finished.ensures)
