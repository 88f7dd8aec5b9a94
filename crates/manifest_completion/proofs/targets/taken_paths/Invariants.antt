use Rattle.std.proofs.Common.{◌++◌, map, drop}
use Rattle.manifest_parts.specs.Records.{product_content}
use Rattle.manifest_completion.specs.Targets.{paths_of, pathed}
use Rattle.manifest_completion.specs.Index.{paths_in, SamePaths}
use Rattle.manifest_completion.proofs.targets.taken_paths.Given as goal

abbrev pub invariant-loop-target : goal.invariant-loop-target
invariant-loop-target l =
    SamePaths (paths_in l.taken
    ++ paths_of (map (pathed l.discovered) (map product_content (drop l.target-index l.targets))))
    (paths_of (map (pathed l.discovered) (map product_content l.targets)))
