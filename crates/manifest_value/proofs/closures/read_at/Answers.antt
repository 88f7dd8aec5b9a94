use Rattle.std.specs.Fn.{FnReturnsAt}
use Rattle.manifest_value.proofs.CallLemmas.{answer_given, fault_given}
use Rattle.manifest_value.proofs.closures.read_at.Goals as goal

pub returns-clause-ok : goal.returns-clause-ok
returns-clause-ok g c = answer_given (FnReturnsAt g.F.Fn c.args.read.now) c.args.value.now c.call_at.result
    c.call_at.ensures

pub returns-clause-fault : goal.returns-clause-fault
returns-clause-fault g c = fault_given (FnReturnsAt g.F.Fn c.args.read.now) c.args.value.now c.call_at.result
    c.call_at.ensures
