use Rattle.manifest_schema.specs.Prelude.{view}
use Rattle.std.proofs.Common.{◌≡◌, map, take}
use Rattle.manifest_fault.specs.Faults.{path_of}
use Rattle.manifest_answers.specs.Unfound.{path_data}
use Rattle.manifest_answers.proofs.unfound.paths_value.Given as goal

-- the values so far are those of the paths so far
abbrev pub invariant-loop-path : goal.invariant-loop-path
invariant-loop-path l = map view l.values.items ≡ map path_data (map path_of (take l.path-index l.paths))
