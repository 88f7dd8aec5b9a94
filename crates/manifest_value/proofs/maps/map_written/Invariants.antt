use Rattle.std.proofs.Common.{◌≡◌, IsTrue, List, ◌++◌, String, Global}
use Rattle.manifest_written.specs.Written.{pairs_ascend}
use Rattle.manifest_value.proofs.WritingLemmas.{AreOf}
use Rattle.manifest_value.proofs.maps.map_written.Given as goal

-- the entries so far are written
abbrev pub invariant-loop-key : goal.invariant-loop-key
invariant-loop-key g l =
    (done : List (String Global × g.row.T.Denot)) × (l.map.entries ≡ done ++ l.key-iterator)
    × AreOf g.T.Schema.kind g.T.Schema.content l.out.items done × IsTrue (pairs_ascend l.out.items)
