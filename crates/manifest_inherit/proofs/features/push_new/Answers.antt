use Rattle.std.proofs.Common.{◌≡◌, ◌++◌, Bool, true, false, not, refl, ap, sym, ◌∙◌}
use Rattle.manifest_completion.specs.Index.{paths_in}
use Rattle.manifest_inherit.specs.Resolved.{new_features}
use Rattle.manifest_inherit.specs.ForProofs.{borrowed_texts}
use Rattle.manifest_inherit.proofs.FeatureLemmas.{feature_new, borrowed_push}
use Rattle.manifest_inherit.proofs.features.push_new.Goals as goal

is_off : (b : Bool) → not b ≡ true → b ≡ false
is_off true h = sym h
is_off false h = refl

pub returns-in_ok-push : goal.returns-in_ok-push
returns-in_ok-push c = λ fs.
    let had = paths_in c.args.there.now in
    let now = paths_in c.add_text.new.texts in
    let is_new = feature_new had now fs c.args.feature.now (is_off _ (sym c.in_ok-add_text.ensures.new
    ∙ c.if-branch.true)) c.in_ok-add_text.ensures.added in
    ap (λ xs. borrowed_texts xs ++ new_features now fs) c.in_ok-push.ensures.items
    ∙ borrowed_push c.args.new.now.items c.args.feature (new_features now fs)
    ∙ ap (λ ts. borrowed_texts c.args.new.now.items ++ ts) (sym is_new)
