use Rattle.toml.specs.View.{view}
use Rattle.std.proofs.Common.{inr}
use Rattle.cargo_manifest.specs.Whole.{manifest_content}
use Rattle.manifest_answers.specs.Given.{given_by}
use Rattle.manifest_answers.specs.Unfound.{GivesUnfoundOver, RefusesUnfoundTextOver}
use Rattle.manifest_answers.proofs.StepLemmas.{made_weaker}
use Rattle.manifest_answers.proofs.unfound.unfound_over.Goals as goal

pub returns-in-Ok : goal.returns-in-Ok
returns-in-Ok c =
    let m = manifest_content view view c.in-Ok.manifest.value in
    let most = c.args.most in
    let bytes = c.args.bytes.now in
    let stored = given_by c.args.folders.now in
    made_weaker _ (GivesUnfoundOver most bytes stored) _ (RefusesUnfoundTextOver most bytes stored) _ (λ t h. (m, c.in-Ok.ensures.ok, h)) (λ e h. inr (m, c.in-Ok.ensures.ok, h))
    (rw c.deref.ensures at c.bytes_of_unfound-found.ensures)
