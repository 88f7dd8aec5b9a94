use Rattle.std.proofs.Common.{◌≡◌, ◌++◌, map, flat_map}
use Rattle.std.specs.Vec.Iter.{into_iter_items}
use Rattle.manifest_places.specs.Changes.{change_at_of}
use Rattle.manifest_places.specs.Splices.{splice_of}
use Rattle.manifest_places.specs.Places.{place_of}
use Rattle.manifest_places.specs.Edits.{plan_of, places_in, headers_in, splices_in, change_in}
use Rattle.manifest_places.proofs.edits.parted.Given as goal

abbrev pub invariant-loop-plan : goal.invariant-loop-plan
invariant-loop-plan l =
    (map place_of l.places.items ++ flat_map places_in (map plan_of (into_iter_items l.plan-iterator))
    ≡ flat_map places_in (map plan_of l.fn.plans.items))
    × (map place_of l.headers.items ++ flat_map headers_in (map plan_of (into_iter_items l.plan-iterator))
    ≡ flat_map headers_in (map plan_of l.fn.plans.items))
    × (map splice_of l.splices.items ++ flat_map splices_in (map plan_of (into_iter_items l.plan-iterator))
    ≡ flat_map splices_in (map plan_of l.fn.plans.items))
    × (map change_at_of l.changes.items ++ map change_in (map plan_of (into_iter_items l.plan-iterator))
    ≡ map change_in (map plan_of l.fn.plans.items))
