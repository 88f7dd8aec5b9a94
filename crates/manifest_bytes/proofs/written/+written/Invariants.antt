use Rattle.std.proofs.Common.{◌≡◌, ◌++◌, drop}
use Rattle.manifest_written.specs.Written.{list_view, pairs_view}
use Rattle.manifest_bytes.specs.Encoded.{items_bytes, members_bytes}
use Rattle.manifest_bytes.proofs.written.+written.Given as goal

-- what is appended, and the bytes of what is left
abbrev pub invariant-push_items-loop-item : goal.invariant-push_items-loop-item
invariant-push_items-loop-item l =
    l.out.items ++ items_bytes (list_view (drop l.item-index l.items)) ≡ l.initial.out.items ++ items_bytes (list_view l.items)

abbrev pub invariant-push_pairs-loop-key : goal.invariant-push_pairs-loop-key
invariant-push_pairs-loop-key l =
    l.out.items ++ members_bytes (pairs_view (drop l.key-index l.pairs))
    ≡ l.initial.out.items ++ members_bytes (pairs_view l.pairs)
