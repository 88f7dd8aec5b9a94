use Rattle.std.proofs.Common.{◌≡◌, ◌++◌, map, drop}
use Rattle.manifest_parts.specs.Records.{product_content}
use Rattle.manifest_completion.specs.Targets.{pathed, with_defaults}
use Rattle.manifest_completion.specs.Steps.{defaults_content}
use Rattle.manifest_completion.proofs.targets.filled_targets.Given as goal

abbrev pub invariant-loop-target : goal.invariant-loop-target
invariant-loop-target l =
    map product_content l.list.items ++ map (with_defaults (defaults_content l.defaults)) (map (pathed l.discovered)
    (map product_content (drop l.target-index l.declared)))
    ≡ map (with_defaults (defaults_content l.defaults)) (map (pathed l.discovered) (map product_content l.declared))
