use Rattle.std.proofs.Common.{◌≡◌, ◌++◌}
use Rattle.std.specs.Vec.Iter.{into_iter_items}
use Rattle.manifest_schema.specs.Prelude.{leniently}
use Rattle.manifest_fault.specs.Found.{found_among}
use Rattle.manifest_fault.proofs.schema_findings.+lenient.Given as goal

-- the nodes so far, and those that are to come
abbrev pub invariant-nodes_leniently-loop-node : goal.invariant-nodes_leniently-loop-node
invariant-nodes_leniently-loop-node l =
    found_among l.out.items ++ leniently (found_among (into_iter_items l.node-iterator)) ≡ leniently
    (found_among l.fn.nodes.items)
