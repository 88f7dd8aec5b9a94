use Rattle.std.proofs.Common.{◌≡◌, ◌+◌, drop, map}
use Rattle.toml.specs.View.{view}
use Rattle.manifest_places.specs.Changes.{with_changes}
use Rattle.manifest_places.specs.Places.{place_of, first_number}
use Rattle.manifest_places.specs.Headers.{pairs_taken}
use Rattle.manifest_places.proofs.headers.without_pairs.Given as goal

abbrev pub invariant-loop-place : goal.invariant-loop-place
invariant-loop-place l =
    (l.number ≡ first_number + l.place-index)
    × (with_changes (pairs_taken l.number (map place_of (drop l.place-index l.places))) (view l.now)
    ≡ with_changes (pairs_taken first_number (map place_of l.places)) (view l.fn.value))
