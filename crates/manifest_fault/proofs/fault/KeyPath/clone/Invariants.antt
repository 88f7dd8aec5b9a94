use Rattle.std.proofs.Common.{◌≡◌, map, take}
use Rattle.manifest_fault.specs.Faults.{step_of}
use Rattle.manifest_fault.proofs.fault.KeyPath.clone.Given as goal

abbrev pub invariant-loop-step : goal.invariant-loop-step
invariant-loop-step l = map step_of l.steps.items ≡ map step_of (take l.step-index l.step-items)
