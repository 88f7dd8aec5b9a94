use Rattle.std.proofs.Common.{take}
use Rattle.std.specs.Fn.{FnReturnsAt}
use Rattle.manifest_value.specs.Calls.{ItemsGiven}
use Rattle.manifest_value.proofs.writers.write_list.Given as goal

abbrev pub invariant-loop-x : goal.invariant-loop-x
invariant-loop-x g l = ItemsGiven (FnReturnsAt g.F.Fn l.write) (take l.x-index l.items) l.out.items
