use Rattle.manifest_schema.specs.Prelude.{common_steps, FnReturnsAt}
use Rattle.std.proofs.Common.{arith, ◌≡◌, take}
use Rattle.toml.proofs.Views.{view-Array}
use Rattle.manifest_value.proofs.CallLemmas.{items_given-more}
use Rattle.manifest_value.proofs.writers.write_list.Goals as goal

pub loop-x-preserved : goal.loop-x-preserved
loop-x-preserved g c =
    rw c.in_ok-push.ensures.items
    (items_given-more (FnReturnsAt g.F.Fn c.args.write) c.args.items.now c.loop-x.x-index c.x-item.result
    c.loop-x.out.items c.in_ok-call_at.field-0 (omega arith) c.x-item.is c.loop-x.invariant c.in_ok-call_at.ensures)

pub returns : goal.returns
returns g c =
    let whole : take c.loop-x.x-index c.args.items.now ≡ c.args.items.now = grind (arith, common_steps) in
    record { items = c.loop-x.out.items; is = view-Array c.loop-x.out; given = rw whole at c.loop-x.invariant }
