use Rattle.manifest_schema.specs.Prelude.{items_view, members_view, plain_items, plain_members}
use Rattle.std.proofs.Common.{◌≡◌, drop}
use Rattle.manifest_value.proofs.raw_values.+floats.Given as goal

abbrev pub invariant-items_hold_float-loop-item : goal.invariant-items_hold_float-loop-item
invariant-items_hold_float-loop-item l = plain_items (items_view l.item-items) ≡ plain_items
    (items_view (drop l.item-index l.item-items))

abbrev pub invariant-members_hold_float-loop-key : goal.invariant-members_hold_float-loop-key
invariant-members_hold_float-loop-key l = plain_members (members_view l.members.entries) ≡ plain_members
    (members_view l._key-iterator)
