use Rattle.std.proofs.Common.{◌≡◌, map, take}
use Rattle.manifest_places.specs.Paths.{path_of}
use Rattle.manifest_answers.specs.Edited.{given_step}
use Rattle.manifest_answers.proofs.editing.path_given.Given as goal

-- the steps so far are those that were given so far
abbrev pub invariant-loop-step : goal.invariant-loop-step
invariant-loop-step l = path_of l.path.items ≡ map given_step (take l.step-index l.steps)
