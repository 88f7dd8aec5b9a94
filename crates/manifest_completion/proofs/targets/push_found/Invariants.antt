use Rattle.std.proofs.Common.{◌≡◌, ◌++◌, map, drop}
use Rattle.manifest_parts.specs.Records.{product_content}
use Rattle.manifest_completion.specs.Targets.{added, with_defaults}
use Rattle.manifest_completion.specs.Index.{paths_in}
use Rattle.manifest_completion.specs.Steps.{all_discovered_content, defaults_content}
use Rattle.manifest_completion.proofs.targets.push_found.Given as goal

abbrev pub invariant-loop-target_found : goal.invariant-loop-target_found
invariant-loop-target_found l =
    map product_content l.list.items ++ map (with_defaults (defaults_content l.defaults))
    (added (paths_in l.taken) (all_discovered_content (drop l.target_found-index l.discovered)))
    ≡ map product_content l.initial.list.items ++ map (with_defaults (defaults_content l.defaults))
    (added (paths_in l.initial.taken) (all_discovered_content l.discovered))
