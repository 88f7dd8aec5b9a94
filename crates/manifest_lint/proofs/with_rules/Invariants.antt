use Rattle.std.proofs.Common.{◌≡◌, All}
use Rattle.manifest_lint.specs.Lint.{findings_reported, IsPlaced}
use Rattle.manifest_lint.proofs.with_rules.Given as goal

-- the rules report no finding of the schema, and each so far is placed
abbrev pub invariant-loop-one : goal.invariant-loop-one
invariant-loop-one l =
    (findings_reported l.all.items ≡ findings_reported l.fn.found.items)
    × All (IsPlaced l.texts.own.now) l.all.items
