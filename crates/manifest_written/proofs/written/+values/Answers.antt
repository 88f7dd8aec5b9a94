use Rattle.std.proofs.Common.{rules, ◌≡◌, ap, ◌∙◌, sym, subst, true}
use Rattle.std.proofs.lemmas.List.{take_all}
use Rattle.toml.proofs.Views.{view-Array, view-Table}
use Rattle.toml.specs.Data.{array, table}
use Rattle.toml.specs.View.{items_view, members_view}
use Rattle.manifest_written.specs.Written.{written_view, list_view, pairs_view, ascends, pairs_ascend}
use Rattle.manifest_written.proofs.WrittenLemmas.{view_of_table, ascends_table, item_ascends, value_ascends, items_more, members_more}
use Rattle.manifest_written.proofs.written.+values.Goals as goal

pub array_of-loop-item-preserved : goal.array_of-loop-item-preserved
array_of-loop-item-preserved t c h =
    let ws = c.args.items.now in
    let i = c.loop-item.item-index in
    ap items_view c.in_ok-push.ensures.items
    ∙ items_more c.loop-item.out.items ws i c.in_ok-value_of.field-0 c.item-item.result c.loop-item-test.true
    c.item-item.is (c.loop-item.invariant h) (c.in_ok-value_of.ensures (item_ascends ws i c.item-item.result
    c.loop-item-test.true c.item-item.is h))

pub array_of-returns : goal.array_of-returns
array_of-returns t c h =
    let ws = c.args.items.now in
    view-Array c.loop-item.out ∙ ap array (c.loop-item.invariant h ∙ ap list_view
    (take_all c.loop-item.item-index ws (search rules)))

pub table_of-loop-key-preserved : goal.table_of-loop-key-preserved
table_of-loop-key-preserved t c h =
    let es = c.args.pairs.now in
    let i = c.loop-key.key-index in
    let e = c.loop-key-item.result in
    ap members_view c.in_ok-insert.ensures.entries
    ∙ members_more c.loop-key.out.entries es i c.in_ok-from_str.field-0 c.in_ok-value.value e c.loop-key-test.true
    c.loop-key-item.is h (c.loop-key.invariant h) c.in_ok-from_str.ensures.ok (c.in_ok-value.ensures
    (value_ascends es i e c.loop-key-test.true c.loop-key-item.is h))

pub table_of-returns : goal.table_of-returns
table_of-returns t c h =
    let es = c.args.pairs.now in
    c.loop-key.invariant h ∙ ap pairs_view (take_all c.loop-key.key-index es (search rules))

pub value_of-returns-in_ok-table_of-in-Table : goal.value_of-returns-in_ok-table_of-in-Table
value_of-returns-in_ok-table_of-in-Table t c h =
    let pairs = c.in-Table.pairs in
    let same = c.as_slice-in-Table.ensures.value in
    let ascend : pairs_ascend c.as_slice-in-Table.result.now ≡ true =
    ap pairs_ascend same ∙ sym (ascends_table pairs) ∙ subst (λ w. ascends w ≡ true) c.in-Table.is h in
    view-Table c.in_ok-table_of-in-Table.field-0 ∙ ap table (c.in_ok-table_of-in-Table.ensures ascend
    ∙ ap pairs_view same) ∙ sym (ap written_view c.in-Table.is ∙ view_of_table pairs)
