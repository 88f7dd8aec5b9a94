use Rattle.std.proofs.Common.{◌≡◌, ◌++◌, map}
use Rattle.std.specs.Vec.Iter.{into_iter_items}
use Rattle.manifest_schema.specs.Prelude.{unused_of}
use Rattle.manifest_fault.specs.Faults.{path_of}
use Rattle.manifest_fault.specs.Placed.{place_of}
use Rattle.manifest_fault.specs.Found.{findings_of, found}
use Rattle.manifest_fault.proofs.schema_findings.Findings+Finding.unused.Given as goal

-- those so far, and those that are to come
abbrev pub invariant-loop-path : goal.invariant-loop-path
invariant-loop-path l =
    map path_of l.paths.items ++ unused_of (findings_of (map place_of (into_iter_items l.path-iterator))) ≡ unused_of
    (found l.self)
