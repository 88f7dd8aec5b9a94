use Rattle.manifest_schema.specs.Prelude.{IfOk-weaker, FnReturnsAt}
use Rattle.std.proofs.Common.{inr}
use Rattle.manifest_value.specs.Calls.{ItemRefused, ListRefused}
use Rattle.manifest_value.proofs.CallLemmas.{refused_weaker}
use Rattle.manifest_value.proofs.closures.list_of.Goals as goal

pub items_of-requires : goal.items_of-requires
items_of-requires g c = λ b h. c.requires b (c.in-Array.items, c.in-Array.is, rw c.as_slice.ensures.value at h)

pub returns-in-Array-clause-ok : goal.returns-in-Array-clause-ok
returns-in-Array-clause-ok g c =
    IfOk-weaker c.items_of.result _ _ (λ xs h. record {
      list = c.in-Array.items;
      is = c.in-Array.is;
      given =
          rw c.as_slice.ensures.value at h;
    }) c.items_of.ensures.ok

pub returns-in-Array-clause-fault : goal.returns-in-Array-clause-fault
returns-in-Array-clause-fault g c =
    let R = FnReturnsAt g.F.Fn c.args.read in
    refused_weaker (ItemRefused R c.as_slice.result.now) (ListRefused R c.args.value.now) c.items_of.result
    (λ p k q. inr (c.in-Array.items, c.in-Array.is, rw c.as_slice.ensures.value at q)) c.items_of.ensures.fault
