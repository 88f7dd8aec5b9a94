use Rattle.std.proofs.Common.{drop}
use Rattle.std.specs.List.Sorted.{IsStrictlySortedBy}
use Rattle.std.specs.Map.{keys_of}
use Rattle.std.specs.String.{string_cmp}
use Rattle.toml.specs.View.{items_view, members_view}
use Rattle.manifest_bytes.specs.Held.{FitItems, FitMembers}
use Rattle.manifest_bytes.proofs.laws.+held.Given as goal

-- the items fit if those that are left do, and so do the entries
abbrev pub invariant-items_fit-loop-item : goal.invariant-items_fit-loop-item
invariant-items_fit-loop-item l =
    FitItems (items_view (drop l.item-index l.item-items)) → FitItems (items_view l.items.items)

abbrev pub invariant-members_fit-loop-key : goal.invariant-members_fit-loop-key
invariant-members_fit-loop-key l =
    IsStrictlySortedBy string_cmp (keys_of l.key-iterator)
    × (FitMembers (members_view l.key-iterator) → FitMembers (members_view l.members.entries))
