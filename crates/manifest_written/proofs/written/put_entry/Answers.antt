use Rattle.std.proofs.Common.{rules, refl, ◌∙◌, arith, ◌≡◌}
use Rattle.std.proofs.lemmas.Grind.{common_steps}
use Rattle.manifest_schema.specs.Prelude.{insert_entry}
use Rattle.manifest_written.proofs.WrittenLemmas.{key_cmp}
use Rattle.manifest_written.proofs.PutLemmas.{goes_before, goes_in_place, goes_after, goes_last, view_put, ascends_put}
use Rattle.manifest_written.proofs.written.put_entry.Goals as goal

inserted : (c : goal.In_ok-insert-in-Less)
    → c.insert.new.self.items ≡ insert_entry key_cmp c.args.pairs.now.items c.args.key c.args.value
inserted c =
    c.in_ok-insert-in-Less.ensures.items
    ∙ goes_before c.args.pairs.now.items c.loop-i.pairs.items c.loop-i.i c.index.result.now c.args.key c.args.value
    (c.loop-i.invariant c.args.key refl) (search rules) (search rules) (search rules)

pub returns-in-Less-clause-put : goal.returns-in-Less-clause-put
returns-in-Less-clause-put c = view_put _ _ c.args.key c.args.value (inserted c)

pub returns-in-Less-clause-ascend : goal.returns-in-Less-clause-ascend
returns-in-Less-clause-ascend c = ascends_put _ _ c.args.key c.args.value (inserted c)

pub returns-in-Equal-clause-put : goal.returns-in-Equal-clause-put
returns-in-Equal-clause-put c =
    let replaced = goes_in_place c.args.pairs.now.items c.loop-i.pairs.items c.loop-i.i c.index_mut.result.now
    c.args.key c.args.value (c.loop-i.invariant c.args.key refl) (search rules) (search rules)
    (grind (arith, common_steps)) in
    view_put _ _ c.args.key c.args.value replaced

pub returns-in-Equal-clause-ascend : goal.returns-in-Equal-clause-ascend
returns-in-Equal-clause-ascend c =
    let replaced = goes_in_place c.args.pairs.now.items c.loop-i.pairs.items c.loop-i.i c.index_mut.result.now
    c.args.key c.args.value (c.loop-i.invariant c.args.key refl) (search rules) (search rules)
    (grind (arith, common_steps)) in
    ascends_put _ _ c.args.key c.args.value replaced

pub loop-i-preserved : goal.loop-i-preserved
loop-i-preserved c k same =
    goes_after c.args.pairs.now.items c.loop-i.pairs.items c.loop-i.i c.index.result.now k c.args.value
    (c.loop-i.invariant k same) (search rules) (search rules) (grind (arith, common_steps))

appended : (c : goal.In_ok-push)
    → c.push.new.self.items ≡ insert_entry key_cmp c.args.pairs.now.items c.args.key c.args.value
appended c =
    c.in_ok-push.ensures.items
    ∙ goes_last c.args.pairs.now.items c.loop-i.pairs.items c.loop-i.i c.args.key c.args.value
    (c.loop-i.invariant c.args.key refl) (search rules)

pub returns-clause-put : goal.returns-clause-put
returns-clause-put c = view_put _ _ c.args.key c.args.value (appended c)

pub returns-clause-ascend : goal.returns-clause-ascend
returns-clause-ascend c = ascends_put _ _ c.args.key c.args.value (appended c)
