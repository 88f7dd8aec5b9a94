use Rattle.std.proofs.Common.{◌≡◌, ◌-◌, length}
use Rattle.manifest_nesting.specs.Nesting as spec
use Rattle.manifest_nesting.proofs.nesting.nests_too_deep.Given as goal

-- the rest of the text gives what all of it gives
abbrev pub invariant-loop-i : goal.invariant-loop-i
invariant-loop-i l =
    spec.scan (length l.text - l.i) l.nesting l.rest ≡ spec.scan (length l.text) spec.start l.text
