use Rattle.std.proofs.Common.{◌≡◌, ◌++◌}
use Rattle.std.specs.Vec.Iter.{into_iter_items}
use Rattle.manifest_schema.specs.Prelude.{unused_keys}
use Rattle.manifest_fault.specs.Found.{found}
use Rattle.manifest_value.specs.Sources.{rest_view}
use Rattle.manifest_value.proofs.form_findings.and_unused.Given as goal

-- the findings so far, and the keys that are to come
abbrev pub invariant-loop-key : goal.invariant-loop-key
invariant-loop-key l =
    found l.out ++ unused_keys (rest_view (into_iter_items l.key-iterator)) ≡ found l.fn.so_far
    ++ unused_keys (rest_view l.fn.rest.items)
