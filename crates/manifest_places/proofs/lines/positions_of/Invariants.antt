use Rattle.std.proofs.Common.{◌≡◌, ◌↔◌, ◌≤◌, ◌++◌, drop, map, length}
use Rattle.manifest_places.specs.Lines.{position_of, offset_position, OffsetsAscend, IsSmall}
use Rattle.manifest_places.proofs.lines.positions_of.Given as goal

abbrev pub invariant-loop-offset : goal.invariant-loop-offset
invariant-loop-offset l =
    (l.at ≤ length l.text) × (position_of l.now ≡ offset_position l.text l.at) × IsSmall l.now l.at
    × (map position_of l.positions.items ++ map (offset_position l.text) (drop l.offset-index l.offsets)
    ≡ map (offset_position l.text) l.offsets)
    × (OffsetsAscend l.text l.at (drop l.offset-index l.offsets) ↔ OffsetsAscend l.text 0 l.offsets)
