use Rattle.toml.specs.View.{view}
use Rattle.std.proofs.Common.{inr}
use Rattle.cargo_manifest.specs.Whole.{manifest_content}
use Rattle.manifest_answers.specs.Unresolved.{GivesRefusals, RefusesRefusals}
use Rattle.manifest_answers.proofs.StepLemmas.{made_weaker}
use Rattle.manifest_answers.proofs.unresolved.placed_refusals.Goals as goal

pub returns-in-Ok : goal.returns-in-Ok
returns-in-Ok c =
    let m = manifest_content view view c.in-Ok.member.value in
    let most = c.args.most in
    let bytes = c.args.bytes.now in
    let root = c.args.root.now in
    made_weaker _ (GivesRefusals most bytes root) _ (RefusesRefusals most bytes root) _ (λ t h. (m, c.in-Ok.ensures.ok, h)) (λ e h. inr (m, c.in-Ok.ensures.ok, h))
    (rw c.deref.ensures at c.refusals_of_member-found.ensures)
