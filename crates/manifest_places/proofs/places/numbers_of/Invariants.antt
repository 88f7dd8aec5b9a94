use Rattle.std.proofs.Common.{◌≡◌, ◌+◌, ◌++◌, drop, map}
use Rattle.manifest_places.specs.Splices.{splice_of}
use Rattle.manifest_places.specs.Places.{place_of, first_number, numbers_put}
use Rattle.manifest_places.proofs.places.numbers_of.Given as goal

abbrev pub invariant-loop-place : goal.invariant-loop-place
invariant-loop-place l =
    (l.number ≡ first_number + l.place-index)
    × (map splice_of l.numbers.items ++ numbers_put l.number (map place_of (drop l.place-index l.places))
    ≡ numbers_put first_number (map place_of l.places))
