use Rattle.manifest_schema.specs.Prelude.{items_view, members_view, item_floats, entry_floats}
use Rattle.std.proofs.Common.{◌≡◌, ◌++◌, drop}
use Rattle.manifest_fault.specs.Found.{found}
use Rattle.manifest_value.proofs.raw_values.+all_places.Given as goal

abbrev pub invariant-find_floats_in_items-loop-i : goal.invariant-find_floats_in_items-loop-i
invariant-find_floats_in_items-loop-i l = found l.out ++ item_floats l.i (items_view (drop l.i l.item-items))
    ≡ item_floats 0 (items_view l.item-items)

abbrev pub invariant-find_floats_in_members-loop-key : goal.invariant-find_floats_in_members-loop-key
invariant-find_floats_in_members-loop-key l = found l.out ++ entry_floats (members_view l.key-iterator) ≡ entry_floats
    (members_view l.members.entries)
