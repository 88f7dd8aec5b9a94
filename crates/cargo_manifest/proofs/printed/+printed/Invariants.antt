use Rattle.std.proofs.Common.{◌≡◌, ◌+◌, drop}
use Rattle.toml.specs.View.{items_view, members_view}
use Rattle.cargo_manifest.specs.Printed as spec
use Rattle.cargo_manifest.proofs.printed.+printed.Given as goal

-- the size so far, and what is left
abbrev pub invariant-items_size-loop-item : goal.invariant-items_size-loop-item
invariant-items_size-loop-item l =
    l.size + spec.printed_items l.path (items_view (drop l.item-index l.item-items))
    ≡ spec.printed_items l.path (items_view l.item-items)

abbrev pub invariant-members_size-loop-key : goal.invariant-members_size-loop-key
invariant-members_size-loop-key l =
    l.size + spec.printed_members l.path (members_view l.key-iterator)
    ≡ spec.printed_members l.path (members_view l.members.entries)
