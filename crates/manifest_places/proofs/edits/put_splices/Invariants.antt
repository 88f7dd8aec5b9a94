use Rattle.std.proofs.Common.{◌≡◌, ◌++◌, map}
use Rattle.std.specs.Vec.Iter.{into_iter_items}
use Rattle.manifest_places.specs.Splices.{splice_of}
use Rattle.manifest_places.proofs.edits.put_splices.Given as goal

abbrev pub invariant-loop-splice : goal.invariant-loop-splice
invariant-loop-splice l =
    map splice_of l.splices.items ++ map splice_of (into_iter_items l.splice-iterator)
    ≡ map splice_of l.fn.splices.items ++ map splice_of l.fn.more.items
