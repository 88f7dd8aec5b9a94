use Rattle.std.proofs.Common.{◌≡◌, List, ◌++◌, String, Global}
use Rattle.std.specs.Fn.{FnReturnsAt}
use Rattle.manifest_value.specs.Calls.{EntriesGiven}
use Rattle.manifest_value.proofs.writers.entries_by.Given as goal

abbrev pub invariant-loop-key : goal.invariant-loop-key
invariant-loop-key g l =
    (done : List (String Global × g.row.T.Denot)) × (l.map.entries ≡ done ++ l.key-iterator)
    × EntriesGiven (FnReturnsAt g.F.Fn l.write) done l.all.entries
