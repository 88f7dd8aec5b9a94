use Rattle.std.proofs.Common.{◌≡◌, ◌↔◌, length, drop}
use Rattle.toml.specs.View.{items_view, members_view}
use Rattle.manifest_places.proofs.compare.+same.Given as goal

abbrev pub invariant-same_items-loop-i : goal.invariant-same_items-loop-i
invariant-same_items-loop-i l =
    (length l.a ≡ length l.b)
    × ((items_view (drop l.i l.a) ≡ items_view (drop l.i l.b)) ↔ (items_view l.a ≡ items_view l.b))

abbrev pub invariant-same_members-loop-key : goal.invariant-same_members-loop-key
invariant-same_members-loop-key l =
    (members_view l.key-iterator ≡ members_view l.others) ↔ (members_view l.a.entries ≡ members_view l.b.entries)
