use Rattle.std.proofs.Common.{◌≡◌, ◌↔◌, ◌+◌, drop, map}
use Rattle.toml.specs.View.{view}
use Rattle.manifest_places.specs.Places.{place_of, first_number, HaveNumbers}
use Rattle.manifest_places.proofs.places.have_numbers.Given as goal

abbrev pub invariant-loop-place : goal.invariant-loop-place
invariant-loop-place l =
    (l.number ≡ first_number + l.place-index)
    × (HaveNumbers (view l.value) l.number (map place_of (drop l.place-index l.places))
    ↔ HaveNumbers (view l.value) first_number (map place_of l.places))
