use Rattle.std.proofs.Common.{◌≡◌, length, drop, map}
use Rattle.manifest_places.specs.Places.{place_of}
use Rattle.manifest_places.specs.Keys.{AreKeys}
use Rattle.manifest_places.specs.Finding.{parts_of}
use Rattle.manifest_places.proofs.finding.are_keys.Given as goal

abbrev pub invariant-loop-i : goal.invariant-loop-i
invariant-loop-i l =
    (length l.places ≡ length l.keys)
    × (AreKeys l.text (map place_of (drop l.i l.places)) (map parts_of (drop l.i l.keys))
    → AreKeys l.text (map place_of l.places) (map parts_of l.keys))
