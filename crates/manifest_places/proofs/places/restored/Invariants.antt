use Rattle.std.proofs.Common.{◌≡◌, ◌↔◌, ◌+◌, drop, map}
use Rattle.toml.specs.Data.{Data}
use Rattle.toml.specs.View.{view}
use Rattle.manifest_places.specs.Places.{place_of, first_number, AreRestored}
use Rattle.manifest_places.proofs.places.restored.Given as goal

abbrev pub invariant-loop-place : goal.invariant-loop-place
invariant-loop-place l =
    (l.number ≡ first_number + l.place-index)
    × ((d : Data) → AreRestored l.text l.number (map place_of (drop l.place-index l.places)) (view l.now) d
    ↔ AreRestored l.text first_number (map place_of l.places) (view l.fn.value) d)
