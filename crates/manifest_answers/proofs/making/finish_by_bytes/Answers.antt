use Rattle.manifest_schema.specs.Prelude.{on_ok_weaker, IfErr-weaker, view}
use Rattle.std.proofs.Common.{Some, inr}
use Rattle.cargo_manifest.specs.Whole.{manifest_content}
use Rattle.manifest_answers.specs.Made.{stored_by, FinishesStored, FinishesByBytes}
use Rattle.manifest_answers.proofs.making.finish_by_bytes.Goals as goal

pub returns-in-Ok-clause-ok : goal.returns-in-Ok-clause-ok
returns-in-Ok-clause-ok c =
    let root = manifest_content view view c.in-Ok.root.value in
    let old = manifest_content view view c.args.manifest.now in
    let new = manifest_content view view c.finish_by-finished.new.manifest in
    let stored = stored_by c.args.folders in
    let by_bytes : FinishesStored c.args.most (Some root) stored old new → FinishesByBytes c.args.most c.args.input
    (Some c.in-Some.bytes.now) stored old new = λ h. (Some root, c.in-Ok.ensures.ok, h) in
    rw c.in-Some.is (on_ok_weaker _ by_bytes (rw c.deref.ensures at c.finish_by-finished.ensures.ok))

pub returns-in-Ok-clause-refused : goal.returns-in-Ok-clause-refused
returns-in-Ok-clause-refused c =
    let root = manifest_content view view c.in-Ok.root.value in
    rw c.in-Some.is (IfErr-weaker c.finish_by-finished.result _ _ (λ e h. inr (Some root, c.in-Ok.ensures.ok, h))
    (rw c.deref.ensures at c.finish_by-finished.ensures.refused))
