use Rattle.std.proofs.Common.{◌≡◌, IsTrue, take}
use Rattle.toml.specs.View.{items_view, members_view}
use Rattle.manifest_written.specs.Written.{list_view, pairs_view, list_ascends, pairs_ascend}
use Rattle.manifest_written.proofs.written.+values.Given as goal

-- those so far are made
abbrev pub invariant-array_of-loop-item : goal.invariant-array_of-loop-item
invariant-array_of-loop-item l = IsTrue (list_ascends l.items) →
    items_view l.out.items ≡ list_view (take l.item-index l.items)

abbrev pub invariant-table_of-loop-key : goal.invariant-table_of-loop-key
invariant-table_of-loop-key l = IsTrue (pairs_ascend l.pairs) →
    members_view l.out.entries ≡ pairs_view (take l.key-index l.pairs)
