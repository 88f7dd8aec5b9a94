use Rattle.manifest_schema.specs.Prelude.{FnReturnsAt, Value}
use Rattle.std.proofs.Common.{◌≡◌, List, ◌++◌, String, Global}
use Rattle.manifest_value.specs.Calls.{EntriesGiven}
use Rattle.manifest_value.proofs.closures.entries_of.Given as goal

abbrev pub invariant-loop-key : goal.invariant-loop-key
invariant-loop-key g l =
    (done : List (String Global × Value)) × (l.table.entries ≡ done ++ l.key-iterator)
    × EntriesGiven (FnReturnsAt g.F.Fn l.read) done l.all.entries
