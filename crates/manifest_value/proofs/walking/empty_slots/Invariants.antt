use Rattle.std.proofs.Common.{◌≡◌}
use Rattle.std.proofs.Math.ListN.{replicate}
use Rattle.manifest_value.specs.declared.row_slots.RowSlot.{RowSlot}
use Rattle.manifest_value.proofs.walking.empty_slots.Given as goal

abbrev pub invariant-loop-row : goal.invariant-loop-row
invariant-loop-row l = l.slots.items ≡ replicate l._row-index RowSlot.Absent
