use Rattle.std.proofs.Common.{◌≡◌, ◌++◌, List, take}
use Rattle.manifest_fault.specs.Placed.{placed_among}
use Rattle.manifest_places.specs.Paths.{Path, path_of}
use Rattle.manifest_places.specs.Findings.{paths_below, AreLocated}
use Rattle.manifest_places.proofs.finding.Places.+located.Given as goal

-- where that stands which the nodes so far say; and the path is as it was
abbrev pub invariant-push_nodes-loop-node : goal.invariant-push_nodes-loop-node
invariant-push_nodes-loop-node g l = record {
  all : (before : List Path) → AreLocated l.self before l.fn.all.items → AreLocated l.self (before ++ paths_below
      g.L.LooksAt.leads (path_of l.fn.path.items) (placed_among (take l.node-index l.nodes))) l.all.items;
  path : path_of l.path.items ≡ path_of l.fn.path.items;
}
