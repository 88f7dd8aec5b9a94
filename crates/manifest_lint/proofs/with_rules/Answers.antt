use Rattle.std.proofs.Common.{◌≡◌, ◌∷◌, ◌++◌, ◌∙◌}
use Rattle.std.proofs.lemmas.List.Elements.{All-push}
use Rattle.manifest_lint.specs.Lint.{findings_reported, IsPlaced}
use Rattle.manifest_lint.proofs.Reported.{none_reported}
use Rattle.manifest_lint.proofs.with_rules.Goals as goal

pub loop-one-preserved : goal.loop-one-preserved
loop-one-preserved c =
    let ds = c.loop-one.all.items in
    let d = c.in_ok-placed.placed in
    let found = none_reported ds d c.in_ok-placed.ensures.found ∙ c.loop-one.invariant.0 in (
      rw c.in_ok-push.ensures.items found,
      rw c.in_ok-push.ensures.items
          (All-push (IsPlaced c.args.texts.now.own.now) ds d c.loop-one.invariant.1 c.in_ok-placed.ensures.placed),
    )
