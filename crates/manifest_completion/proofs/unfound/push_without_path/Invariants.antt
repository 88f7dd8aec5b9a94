use Rattle.std.proofs.Common.{◌≡◌, ◌++◌, map, drop}
use Rattle.manifest_parts.specs.Records.{product_content}
use Rattle.manifest_fault.specs.Faults.{path_of}
use Rattle.manifest_completion.specs.Steps.{defaults_content}
use Rattle.manifest_completion.specs.Unfound.{as_completed, without_path}
use Rattle.manifest_completion.proofs.unfound.push_without_path.Given as goal

-- the places so far, and those of the targets that are to come
abbrev pub invariant-loop-i : goal.invariant-loop-i
invariant-loop-i l =
    map path_of l.out.items ++ without_path l.list l.i (as_completed (defaults_content l.defaults) l.discovered
    (map product_content (drop l.i l.declared)))
    ≡ map path_of l.initial.out.items ++ without_path l.list 0 (as_completed (defaults_content l.defaults) l.discovered
    (map product_content l.declared))
