use Rattle.std.proofs.Common.{◌≡◌, ◌∷◌, ◌++◌, ap, sym, ◌∙◌}
use Rattle.std.proofs.lemmas.List.Elements.{All-push}
use Rattle.std.specs.Vec.Iter.{into_iter_items}
use Rattle.manifest_lint.specs.Lint.{findings_reported, IsPlaced}
use Rattle.manifest_lint.proofs.Reported.{next_reported}
use Rattle.manifest_lint.proofs.placed_findings.Goals as goal

pub loop-diagnostic-preserved : goal.loop-diagnostic-preserved
loop-diagnostic-preserved c =
    let ds = c.loop-diagnostic.all.items in
    let d = c.in_ok-placed.placed in
    let e = c.in-Some.diagnostic in
    let rest = into_iter_items c.next.new.self in
    let steps : into_iter_items c.loop-diagnostic.diagnostic-iterator ≡ e ∷ rest = c.in-Some.ensures.steps.0 in
    let found =
    next_reported ds d e rest c.in_ok-placed.ensures.found
    ∙ ap (λ es. findings_reported ds ++ findings_reported es) (sym steps)
    ∙ c.loop-diagnostic.invariant.0 in (
      rw c.in_ok-push.ensures.items found,
      rw c.in_ok-push.ensures.items
          (All-push (IsPlaced c.args.texts.now.own.now) ds d c.loop-diagnostic.invariant.1 c.in_ok-placed.ensures.placed),
    )
