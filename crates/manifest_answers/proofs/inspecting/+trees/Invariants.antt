use Rattle.manifest_schema.specs.Prelude.{view}
use Rattle.std.proofs.Common.{◌≡◌, map, take}
use Rattle.manifest_answers.specs.Inspected.{node_data}
use Rattle.manifest_answers.proofs.inspecting.+trees.Given as goal

-- the values so far are those of the nodes so far
abbrev pub invariant-nodes_value-loop-node : goal.invariant-nodes_value-loop-node
invariant-nodes_value-loop-node g l =
    map view l.all.items ≡ map (node_data g.C.Reported.reported) (take l.node-index l.nodes)
