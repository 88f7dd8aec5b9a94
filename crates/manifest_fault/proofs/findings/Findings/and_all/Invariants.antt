use Rattle.std.proofs.Common.{◌≡◌, ◌++◌}
use Rattle.std.specs.Vec.Iter.{into_iter_items}
use Rattle.manifest_fault.specs.Placed.{placed_among}
use Rattle.manifest_fault.proofs.findings.Findings.and_all.Given as goal

-- what the nodes so far say, and those that are to come
abbrev pub invariant-loop-node : goal.invariant-loop-node
invariant-loop-node g l =
    placed_among l.nodes.items ++ placed_among (into_iter_items l.node-iterator) ≡ placed_among l.fn.self.nodes.items
    ++ placed_among l.fn.more.nodes.items
