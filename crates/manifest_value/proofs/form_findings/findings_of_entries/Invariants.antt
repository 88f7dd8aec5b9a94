use Rattle.std.proofs.Common.{◌≡◌, ◌++◌}
use Rattle.manifest_schema.specs.Prelude.{entry_findings}
use Rattle.manifest_fault.specs.Found.{found}
use Rattle.manifest_value.specs.Sources.{entries_view}
use Rattle.manifest_value.proofs.form_findings.findings_of_entries.Given as goal

-- what is found in the entries so far, and in those that are to come
abbrev pub invariant-loop-key : goal.invariant-loop-key
invariant-loop-key g l =
    found l.out ++ entry_findings g.T.Schema.kind.findings (entries_view l.key-iterator) ≡ entry_findings
    g.T.Schema.kind.findings (entries_view l.fn.entries)
