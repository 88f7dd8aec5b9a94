use Rattle.manifest_schema.specs.Prelude.{Text}
use Rattle.std.proofs.Common.{inr, subst}
use Rattle.manifest_completion.specs.Listings.{Answer}
use Rattle.manifest_answers.specs.Unfound.{GivesUnfoundOver, RefusesUnfoundTextOver, GivesUnfound, RefusesUnfound}
use Rattle.manifest_answers.proofs.StepLemmas.{made_weaker}
use Rattle.manifest_answers.proofs.unfound.placed_unfound_targets.Goals as goal

pub returns-in-Ok : goal.returns-in-Ok
returns-in-Ok c =
    let most = c.args.most in
    let bytes = c.args.bytes.now in
    let folders = c.args.folders.now in
    made_weaker _ (GivesUnfound most bytes folders) _ (RefusesUnfound most bytes folders) _
    (λ t h. (c.in-Ok.ensures.listings, subst (λ (stored : Text → Answer). GivesUnfoundOver most bytes stored t) c.in-Ok.ensures.ok h))
    (λ e h. inr (subst (λ (stored : Text → Answer). RefusesUnfoundTextOver most bytes stored e) c.in-Ok.ensures.ok h))
    c.unfound_over.ensures
