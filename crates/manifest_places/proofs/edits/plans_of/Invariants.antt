use Rattle.std.proofs.Common.{◌≡◌, ◌++◌, map, All}
use Rattle.std.specs.Vec.Iter.{into_iter_items}
use Rattle.manifest_places.specs.Edits.{edit_of, plan_of, edit_in, IsPlan}
use Rattle.manifest_places.proofs.edits.plans_of.Given as goal

abbrev pub invariant-loop-edit : goal.invariant-loop-edit
invariant-loop-edit l =
    All (IsPlan l.text) (map plan_of l.plans.items)
    × (map edit_in (map plan_of l.plans.items) ++ map edit_of (into_iter_items l.edit-iterator)
    ≡ map edit_of l.fn.edits.items)
