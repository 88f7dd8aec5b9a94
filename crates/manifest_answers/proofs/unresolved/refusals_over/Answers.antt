use Rattle.std.proofs.Common.{map, ap, subst, ◌∙◌}
use Rattle.manifest_inherit.specs.Refused.{PlacedRefusals}
use Rattle.manifest_inherit.specs.Answers.{refusal_of}
use Rattle.manifest_answers.specs.Made.{IsMade}
use Rattle.manifest_answers.specs.Unresolved.{GivesRefused, RefusesRefused}
use Rattle.manifest_answers.proofs.unresolved.refusals_over.Goals as goal

pub returns : goal.returns
returns c =
    let most = c.args.most in
    let bytes = c.args.bytes.now in
    let root = c.args.root.now in
    subst
    (λ (rs : PlacedRefusals). IsMade (GivesRefused most bytes root rs) (RefusesRefused most bytes root rs)
    c.bytes_of_refusals.result)
    (ap (map (λ f. (f.0, refusal_of f.1))) c.nodes.ensures ∙ c.in_ok-found.ensures) c.bytes_of_refusals.ensures
