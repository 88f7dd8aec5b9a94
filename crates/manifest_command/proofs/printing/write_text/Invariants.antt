use Rattle.std.proofs.Common.{◌≡◌, ℕ, List, ◌++◌}
use Rattle.std.specs.Io.KnownBytes.{Appends}
use Rattle.manifest_command.proofs.printing.write_text.Given as goal

-- what is gone from the rest was written
abbrev pub invariant-loop : goal.invariant-loop
invariant-loop g l = (written : List ℕ) × (l.initial.rest ≡ written ++ l.rest)
    × Appends (g.W.Write.contents l.fn.output) (g.W.Write.contents l.output) written
