use Rattle.std.proofs.Common.{◌≡◌, ◌++◌, drop}
use Rattle.manifest_places.specs.Paths.{path_of}
use Rattle.manifest_places.proofs.step.copied.Given as goal

abbrev pub invariant-loop-step : goal.invariant-loop-step
invariant-loop-step l = path_of l.steps.items ++ path_of (drop l.step-index l.path) ≡ path_of l.path
