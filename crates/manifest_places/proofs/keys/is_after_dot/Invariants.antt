use Rattle.std.proofs.Common.{◌≡◌, ◌≤◌, length, take}
use Rattle.manifest_places.specs.Keys.{last_solid}
use Rattle.manifest_places.proofs.keys.is_after_dot.Given as goal

abbrev pub invariant-loop-end : goal.invariant-loop-end
invariant-loop-end l = (l.end ≤ length l.text)
    × (last_solid 0 (take l.offset l.text) ≡ last_solid 0 (take l.end l.text))

abbrev pub decreases-loop-end : goal.decreases-loop-end
decreases-loop-end l = l.end
