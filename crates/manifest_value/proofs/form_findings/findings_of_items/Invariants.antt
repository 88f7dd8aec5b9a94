use Rattle.std.proofs.Common.{◌≡◌, ◌++◌, drop}
use Rattle.manifest_schema.specs.Prelude.{items_view, item_findings}
use Rattle.manifest_fault.specs.Found.{found}
use Rattle.manifest_value.proofs.form_findings.findings_of_items.Given as goal

-- what is found in the items so far, and in those that are to come
abbrev pub invariant-loop-i : goal.invariant-loop-i
invariant-loop-i g l =
    found l.out ++ item_findings g.T.Schema.kind.findings l.i (items_view (drop l.i l.items)) ≡ item_findings
    g.T.Schema.kind.findings 0 (items_view l.items)
