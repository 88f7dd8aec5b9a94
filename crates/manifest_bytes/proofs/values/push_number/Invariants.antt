use Rattle.std.proofs.Common.{◌≡◌, ◌++◌}
use Rattle.manifest_bytes.specs.Numbers.{number_bytes}
use Rattle.manifest_bytes.proofs.values.push_number.Given as goal

abbrev pub invariant-loop-rest : goal.invariant-loop-rest
invariant-loop-rest l = l.out.items ++ number_bytes l.rest ≡ l.initial.out.items ++ number_bytes l.fn.number

abbrev pub decreases-loop-rest : goal.decreases-loop-rest
decreases-loop-rest l = l.rest
