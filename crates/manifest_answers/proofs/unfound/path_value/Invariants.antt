use Rattle.manifest_schema.specs.Prelude.{view}
use Rattle.std.proofs.Common.{◌≡◌, map, take}
use Rattle.manifest_fault.specs.Faults.{step_of}
use Rattle.manifest_answers.specs.Inspected.{step_data}
use Rattle.manifest_answers.proofs.unfound.path_value.Given as goal

-- the values so far are those of the steps so far
abbrev pub invariant-loop-step : goal.invariant-loop-step
invariant-loop-step l = map view l.steps.items ≡ map step_data (map step_of (take l.step-index l.path.steps.items))
