use Rattle.std.proofs.Common.{arith}
use Rattle.std.proofs.lemmas.Grind.{common_steps}
use Rattle.std.proofs.lemmas.List.{drop_all}
use Rattle.std.specs.List.Sorted.{IsStrictlySortedBy}
use Rattle.toml.proofs.Views.{is_before-sorted}
use Rattle.manifest_bytes.proofs.ValueLemmas.{item_count-view, member_count-view}
use Rattle.manifest_bytes.proofs.laws.+held.Goals as goal

pub items_fit-returns : goal.items_fit-returns
items_fit-returns t c =
    let count = item_count-view c.args.items.now.items in
    let none = drop_all c.loop-item.item-index c.deref-item-items.result.now (omega arith) in
    (grind (arith, common_steps), c.loop-item.invariant (rw none tt))

pub members_fit-loop-key-preserved : goal.members_fit-loop-key-preserved
unfolding IsStrictlySortedBy
members_fit-loop-key-preserved t c =
    let (sorted, whole) = rw c.in-Some.ensures.steps at c.loop-key.invariant in
    let first = is_before-sorted c.in-Some.key.now c.next.new.self sorted.0 in
    let key = rw c.as_str.ensures.value at c.text_fits.ensures in
    (sorted.1, λ rest. whole (key, first, c.each_value_fits.ensures, rest))

pub members_fit-returns : goal.members_fit-returns
members_fit-returns t c =
    let count = member_count-view c.args.members.now.entries in
    (grind (arith, common_steps), c.loop-key.invariant.1 (rw c.in-None.ensures.steps.0 tt))
