use Rattle.std.proofs.Common.{◌≡◌, ◌++◌, drop, map}
use Rattle.manifest_fault.specs.Faults.{step_of}
use Rattle.manifest_rules.proofs.report.copied.Given as goal

-- the steps so far, and those that are to come
abbrev pub invariant-loop-step : goal.invariant-loop-step
invariant-loop-step l =
    map step_of l.steps.items ++ map step_of (drop l.step-index l.path) ≡ map step_of l.path
