use Rattle.std.proofs.Common.{take, map}
use Rattle.manifest_fault.specs.Faults.{path_of}
use Rattle.manifest_places.specs.Findings.{AreLocated}
use Rattle.manifest_places.proofs.finding.Places.locate_paths.Given as goal

-- where that stands which belongs to the paths so far
abbrev pub invariant-loop-path : goal.invariant-loop-path
invariant-loop-path l = AreLocated l.self (map path_of (take l.path-index l.paths)) l.all.items
