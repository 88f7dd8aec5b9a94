use Rattle.std.proofs.Common.{◌≡◌, drop}
use Rattle.toml.specs.View.{view}
use Rattle.manifest_places.specs.Paths.{path_of, value_at}
use Rattle.manifest_places.proofs.places.value_at.Given as goal

abbrev pub invariant-loop-step : goal.invariant-loop-step
invariant-loop-step l = value_at (path_of (drop l.step-index l.path)) (view l.now)
    ≡ value_at (path_of l.path) (view l.value)
