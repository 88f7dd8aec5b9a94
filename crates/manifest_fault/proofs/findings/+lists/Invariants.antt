use Rattle.std.proofs.Common.{◌≡◌, ◌++◌, map, drop}
use Rattle.manifest_fault.specs.Faults.{path_of}
use Rattle.manifest_fault.specs.Placed.{place_of, placed_among, placed_below}
use Rattle.manifest_fault.proofs.findings.+lists.Given as goal

-- the list so far, and what the nodes say that are to come
abbrev pub invariant-push_nodes-loop-node : goal.invariant-push_nodes-loop-node
invariant-push_nodes-loop-node g l = record {
  listed : map place_of l.out.items ++ placed_below (path_of l.fn.path) (placed_among (drop l.node-index l.nodes)) ≡ map
      place_of l.fn.out.items ++ placed_below (path_of l.fn.path) (placed_among l.nodes);
  same : path_of l.path ≡ path_of l.fn.path;
}
