use Rattle.std.proofs.Common.{◌≡◌, drop}
use Rattle.manifest_nesting.specs.Skipped as spec
use Rattle.manifest_nesting.proofs.skipping.after_comment.Given as goal

-- no line feed so far
abbrev pub invariant-loop-at : goal.invariant-loop-at
invariant-loop-at l = spec.after_comment (drop l.at l.text) ≡ spec.after_comment l.text
