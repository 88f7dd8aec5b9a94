use Rattle.std.proofs.Common.{◌+◌, ◌*◌, ◌≤◌, length}
use denote.Text.{Utf8}
use denote.Shadow.{shadow}
use Rattle.manifest_places.proofs.walk.+walk.Given as goal

abbrev pub decreases-pair : goal.decreases-pair
decreases-pair l = 4 * l.depth + 2

abbrev pub decreases-value : goal.decreases-value
decreases-value l = 4 * l.depth + 1

abbrev pub decreases-items : goal.decreases-items
decreases-items l = 4 * l.depth + 3

abbrev pub decreases-members : goal.decreases-members
decreases-members l = 4 * l.depth + 3

abbrev pub invariant-items-items : goal.invariant-items-items
invariant-items-items l = shadow (Utf8 l.rest) × (length l.rest ≤ length l.fn.start)

abbrev pub decreases-items-items : goal.decreases-items-items
decreases-items-items l = length l.rest

abbrev pub invariant-members-members : goal.invariant-members-members
invariant-members-members l = shadow (Utf8 l.rest) × (length l.rest ≤ length l.fn.start)

abbrev pub decreases-members-members : goal.decreases-members-members
decreases-members-members l = length l.rest
