use Rattle.std.proofs.Common.{rules, arith}
use Rattle.std.specs.Fn.{FnReturnsAt}
use Rattle.manifest_value.proofs.CallLemmas.{items_given-more, item_refused}
use Rattle.manifest_value.proofs.closures.items_of.Goals as goal

pub returns-in_err-item_at-clause-fault : goal.returns-in_err-item_at-clause-fault
returns-in_err-item_at-clause-fault g c =
    let h = item_refused (FnReturnsAt g.F.Fn c.args.read.now) c.args.items.now c.loop-i.i c.index-items-i.result
    c.loop-i.out.items c.in_err-item_at.field-0.0 (omega arith) c.index-items-i.is c.loop-i.invariant
    c.in_err-item_at.ensures.fault in
    search rules

pub loop-i-preserved : goal.loop-i-preserved
loop-i-preserved g c =
    rw c.in_ok-push.ensures.items
    (items_given-more (FnReturnsAt g.F.Fn c.args.read.now) c.args.items.now c.loop-i.i c.index-items-i.result
    c.loop-i.out.items c.in_ok-item_at.field-0 (omega arith) c.index-items-i.is c.loop-i.invariant
    c.in_ok-item_at.ensures.ok)
