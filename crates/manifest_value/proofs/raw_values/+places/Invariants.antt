use Rattle.manifest_schema.specs.Prelude.{items_view, members_view, plain_items, plain_members, item_floats, entry_floats, faults_of}
use Rattle.std.proofs.Common.{◌≡◌, drop}
use Rattle.manifest_value.proofs.raw_values.+places.Given as goal

abbrev pub invariant-refuse_float_in_items-loop-i : goal.invariant-refuse_float_in_items-loop-i
invariant-refuse_float_in_items-loop-i l = plain_items (items_view l.item-items) ≡ plain_items
    (items_view (drop l.i l.item-items))
    × faults_of (item_floats 0 (items_view l.item-items)) ≡ faults_of
    (item_floats l.i (items_view (drop l.i l.item-items)))

abbrev pub invariant-refuse_float_in_members-loop-key : goal.invariant-refuse_float_in_members-loop-key
invariant-refuse_float_in_members-loop-key l = plain_members (members_view l.members.entries) ≡ plain_members
    (members_view l.key-iterator)
    × faults_of (entry_floats (members_view l.members.entries)) ≡ faults_of (entry_floats (members_view l.key-iterator))
