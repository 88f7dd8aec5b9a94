use Rattle.std.proofs.Common.{◌≡◌, ◌++◌}
use Rattle.std.specs.Vec.Iter.{into_iter_items}
use Rattle.manifest_places.specs.Paths.{path_of}
use Rattle.manifest_places.specs.Edits as spec
use Rattle.manifest_places.proofs.renaming.keys_in.Given as goal

abbrev pub invariant-loop-step : goal.invariant-loop-step
invariant-loop-step l =
    path_of l.keys.items ++ spec.keys_in (path_of (into_iter_items l.step-iterator))
    ≡ spec.keys_in (path_of l.path)
