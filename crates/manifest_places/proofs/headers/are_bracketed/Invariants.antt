use Rattle.std.proofs.Common.{◌↔◌, drop, map}
use Rattle.manifest_places.specs.Places.{place_of}
use Rattle.manifest_places.specs.Headers.{AreBracketed}
use Rattle.manifest_places.proofs.headers.are_bracketed.Given as goal

abbrev pub invariant-loop-place : goal.invariant-loop-place
invariant-loop-place l = AreBracketed l.text (map place_of (drop l.place-index l.places)) ↔ AreBracketed l.text
    (map place_of l.places)
