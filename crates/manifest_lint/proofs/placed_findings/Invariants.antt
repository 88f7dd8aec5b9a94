use Rattle.std.proofs.Common.{◌≡◌, ◌++◌, All}
use Rattle.std.specs.Vec.Iter.{into_iter_items}
use Rattle.manifest_lint.specs.Lint.{findings_reported, IsPlaced}
use Rattle.manifest_lint.proofs.placed_findings.Given as goal

-- those so far, and those that are to come; each so far is placed
abbrev pub invariant-loop-diagnostic : goal.invariant-loop-diagnostic
invariant-loop-diagnostic l =
    (findings_reported l.all.items ++ findings_reported (into_iter_items l.diagnostic-iterator) ≡ findings_reported l.fn.found.items)
    × All (IsPlaced l.texts.own.now) l.all.items
