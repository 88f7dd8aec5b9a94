use Rattle.std.proofs.Common.{◌≡◌, drop}
use Rattle.manifest_fault.specs.Placed.{placed_among}
use Rattle.manifest_fault.proofs.findings.+first.Given as goal

-- the nodes so far say nothing
abbrev pub invariant-first_among-loop-node : goal.invariant-first_among-loop-node
invariant-first_among-loop-node g l = placed_among (drop l.node-index l.nodes) ≡ placed_among l.nodes
