use Rattle.std.proofs.Common.{◌≡◌, map}
use Rattle.std.specs.Vec.Iter.{into_iter_items}
use Rattle.toml.specs.View.{view}
use Rattle.manifest_places.specs.Changes.{with_changes, change_at_of}
use Rattle.manifest_places.proofs.changes.with_changes.Given as goal

abbrev pub invariant-loop-change : goal.invariant-loop-change
invariant-loop-change l =
    with_changes (map change_at_of (into_iter_items l.change-iterator)) (view l.now)
    ≡ with_changes (map change_at_of l.fn.changes.items) (view l.fn.value)
