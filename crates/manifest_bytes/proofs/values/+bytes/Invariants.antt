use Rattle.std.proofs.Common.{◌≡◌, ◌++◌, drop}
use Rattle.toml.specs.View.{items_view, members_view}
use Rattle.manifest_bytes.specs.Encoded.{items_bytes, members_bytes}
use Rattle.manifest_bytes.proofs.values.+bytes.Given as goal

-- what is appended, and the bytes of what is left
abbrev pub invariant-push_items-loop-item : goal.invariant-push_items-loop-item
invariant-push_items-loop-item l =
    l.out.items ++ items_bytes (items_view (drop l.item-index l.item-items))
    ≡ l.initial.out.items ++ items_bytes (items_view l.item-items)

abbrev pub invariant-push_members-loop-key : goal.invariant-push_members-loop-key
invariant-push_members-loop-key l =
    l.out.items ++ members_bytes (members_view l.key-iterator)
    ≡ l.initial.out.items ++ members_bytes (members_view l.members.entries)
