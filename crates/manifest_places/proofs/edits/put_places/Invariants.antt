use Rattle.std.proofs.Common.{◌≡◌, ◌++◌, map}
use Rattle.std.specs.Vec.Iter.{into_iter_items}
use Rattle.manifest_places.specs.Places.{place_of}
use Rattle.manifest_places.proofs.edits.put_places.Given as goal

abbrev pub invariant-loop-place : goal.invariant-loop-place
invariant-loop-place l =
    map place_of l.places.items ++ map place_of (into_iter_items l.place-iterator)
    ≡ map place_of l.fn.places.items ++ map place_of l.fn.more.items
