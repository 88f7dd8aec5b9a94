use Rattle.std.proofs.Common.{◌≡◌}
use Rattle.manifest_places.specs.Lines.{position_of, offset_position, IsSmall}
use Rattle.manifest_places.proofs.lines.advanced.Given as goal

abbrev pub invariant-loop-i : goal.invariant-loop-i
invariant-loop-i l = (position_of l.now ≡ offset_position l.text l.i) × IsSmall l.now l.i
