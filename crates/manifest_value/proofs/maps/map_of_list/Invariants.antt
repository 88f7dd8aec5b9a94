use Rattle.std.proofs.Common.{◌≡◌, ◌++◌}
use Rattle.std.specs.Vec.Iter.{into_iter_items}
use Rattle.manifest_value.proofs.maps.map_of_list.Given as goal

-- the entries so far stand before those that are to come
abbrev pub invariant-loop-key : goal.invariant-loop-key
invariant-loop-key g l = l.map.entries ++ into_iter_items l.key-iterator ≡ l.fn.all.items
