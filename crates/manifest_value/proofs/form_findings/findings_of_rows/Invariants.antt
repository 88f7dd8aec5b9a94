use Rattle.std.proofs.Common.{◌≡◌, ◌++◌}
use Rattle.manifest_schema.specs.Prelude.{table_view}
use Rattle.manifest_fault.specs.Found.{found}
use Rattle.manifest_value.specs.FoundRows.{findings_from}
use Rattle.manifest_value.proofs.form_findings.findings_of_rows.Given as goal

-- what is found of the rows so far, and of those that are to come
abbrev pub invariant-loop-i : goal.invariant-loop-i
invariant-loop-i g l =
    found l.out ++ findings_from l.i g.T.Rowed.rows (table_view l.table) ≡ findings_from 0 g.T.Rowed.rows
    (table_view l.table)
