use Rattle.std.proofs.Common.{sym, ap, ◌∙◌}
use Rattle.manifest_schema.specs.Prelude.{found_under, leniently}
use Rattle.manifest_fault.specs.Faults.{step_of}
use Rattle.manifest_fault.specs.Placed.{placed_among}
use Rattle.manifest_fault.specs.Found.{findings_of, found_in, found_among}
use Rattle.manifest_fault.proofs.FindingTrees.{within, found_under_of, lenient_under}
use Rattle.manifest_fault.proofs.schema_findings.+lenient.Goals as goal

pub node_leniently-returns-in_ok-nodes_leniently-in-Within : goal.node_leniently-returns-in_ok-nodes_leniently-in-Within
node_leniently-returns-in_ok-nodes_leniently-in-Within t c =
    let s = step_of c.in-Within.step in
    let inside = c.in-Within.nodes in
    let out = c.in_ok-nodes_leniently-in-Within.field-0 in
    ap findings_of (within c.in-Within.step out) ∙ found_under_of s (placed_among out.items)
    ∙ ap (found_under s) c.in_ok-nodes_leniently-in-Within.ensures
    ∙ sym (lenient_under s (found_among inside.items))
    ∙ ap leniently (sym (ap found_in c.in-Within.is ∙ ap findings_of (within c.in-Within.step inside)
    ∙ found_under_of s (placed_among inside.items)))
