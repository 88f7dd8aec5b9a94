use Rattle.std.proofs.Common.{◌≡◌, ◌<◌, ◌≤◌, get_or, Some, None, refl, sym, rules, arith, length}
use Rattle.std.proofs.lemmas.Bool.Decides.{nat_tests}
use Rattle.std.specs.Map.{lookup}
use Rattle.std.specs.BTreeMap.{is_at}
use Rattle.toml.specs.Data.{as_table}
use Rattle.toml.specs.View.{view, table_view}
use Rattle.toml.proofs.Views.{view-Table}
use Rattle.manifest_places.specs.Paths.{path_of}
use Rattle.manifest_places.specs.Changes.{with_change, change_of}
use Rattle.manifest_places.proofs.ChangeLemmas.{at_text, changed_entry, no_entry, refused_entry, changed_item, no_item_there, refused_item}
use Rattle.manifest_places.proofs.changes.+one.Goals as goal

pub change_item-returns-then-index-len : goal.change_item-returns-then-index-len
change_item-returns-then-index-len t c =
    let le : length c.args.items.now.items ≤ c.args.index = grind (arith, nat_tests) in
    no_item_there (with_change (path_of c.args.path.now)
    (change_of c.args.change)) c.args.items.now.items c.args.index le

pub change_item-returns-in-None : goal.change_item-returns-in-None
change_item-returns-in-None t c =
    let v = c.replace-inner.result in
    let lt : c.args.index < length c.args.items.now.items = grind (arith, nat_tests) in
    let is : v ≡ get_or c.args.items.now.items c.args.index v = search rules in
    let none = sym (rw c.in-None.is at c.in_ok-with_change.ensures) in
    refused_item (with_change (path_of c.args.path.now)
    (change_of c.args.change)) c.args.items.now.items c.args.index v lt is none

pub change_item-returns-in-Some : goal.change_item-returns-in-Some
change_item-returns-in-Some t c =
    let v = c.replace-inner.result in
    let lt : c.args.index < length c.args.items.now.items = grind (arith, nat_tests) in
    let is : v ≡ get_or c.args.items.now.items c.args.index v = search rules in
    let made = sym (rw c.in-Some.is at c.in_ok-with_change.ensures) in
    changed_item (with_change (path_of c.args.path.now)
    (change_of c.args.change)) c.args.items.now.items c.args.index v c.in-Some.new lt is made

pub change_member-returns-in-None : goal.change_member-returns-in-None
change_member-returns-in-None t c =
    let k = c.args.key.now in
    let es = c.args.table.now.entries in
    let none : lookup (is_at (at_text k)) es ≡ None = sym (rw c.in-None.is at c.get_mut.ensures.value) in
    no_entry k (with_change (path_of c.args.path.now) (change_of c.args.change)) es none

pub change_member-returns-in-None-2 : goal.change_member-returns-in-None-2
change_member-returns-in-None-2 t c =
    let k = c.args.key.now in
    let es = c.args.table.now.entries in
    let found : lookup (is_at (at_text k)) es
    ≡ Some c.in-Some.slot.now = sym (rw c.in-Some.is at c.get_mut.ensures.value) in
    let none = sym (rw (c.in-None-2.is, c.replace-inner.ensures.value) at c.in_ok-with_change-in-Some.ensures) in
    refused_entry k (with_change (path_of c.args.path.now) (change_of c.args.change)) es c.in-Some.slot.now found none

pub change_member-returns-in-Some-2 : goal.change_member-returns-in-Some-2
change_member-returns-in-Some-2 t c =
    let k = c.args.key.now in
    let es = c.args.table.now.entries in
    let w = c.in-Some-2.new in
    let found : lookup (is_at (at_text k)) es
    ≡ Some c.in-Some.slot.now = sym (rw c.in-Some.is at c.get_mut.ensures.value) in
    let made = sym (rw (c.in-Some-2.is, c.replace-inner.ensures.value) at c.in_ok-with_change-in-Some.ensures) in
    rw (c.get_mut.follows.holds w).0
    (changed_entry k (with_change (path_of c.args.path.now)
    (change_of c.args.change)) es c.in-Some.slot.now w found made)

pub with_change-returns-then-branch : goal.with_change-returns-then-branch
with_change-returns-then-branch t c =
    let held : as_table (view c.args.value)
    ≡ Some (table_view c.in-Some-table_in.table) = sym (rw c.in-Some-table_in.is at c.table_in.ensures) in
    let made = rw (c.as_str.ensures.value, c.if-branch.true) at c.in_ok-change_member-in-Key.ensures in
    rw (c.in-Some.ensures.cases.0, c.in-Key.is, held, view-Table c.change_member.new.table, made) refl
