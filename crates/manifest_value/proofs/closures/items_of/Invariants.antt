use Rattle.std.proofs.Common.{take}
use Rattle.std.specs.Fn.{FnReturnsAt}
use Rattle.manifest_value.specs.Calls.{ItemsGiven}
use Rattle.manifest_value.proofs.closures.items_of.Given as goal

abbrev pub invariant-loop-i : goal.invariant-loop-i
invariant-loop-i g l = ItemsGiven (FnReturnsAt g.F.Fn l.read) (take l.i l.items) l.out.items
