use Rattle.std.proofs.Common.{◌≡◌, ◌++◌, map}
use Rattle.std.specs.Vec.Iter.{into_iter_items}
use Rattle.manifest_fault.specs.Placed.{place_of}
use Rattle.manifest_fault.specs.Found.{findings_of}
use Rattle.manifest_lint.specs.Lint.{findings_reported}
use Rattle.manifest_lint.proofs.schema.diagnostics_of.Given as goal

-- those so far, and those that are to come
abbrev pub invariant-loop-path : goal.invariant-loop-path
invariant-loop-path l =
    findings_reported l.all.items ++ findings_of (map place_of (into_iter_items l.path-iterator)) ≡ findings_of
    (map place_of l.fn.findings.items)
