use Rattle.std.proofs.Common.{◌+◌, ◌*◌, length}
use Rattle.manifest_places.proofs.changes.+one.Given as goal

abbrev pub decreases-with_change : goal.decreases-with_change
decreases-with_change l = 2 * length l.path.now

abbrev pub decreases-change_item : goal.decreases-change_item
decreases-change_item l = 2 * length l.path.now + 1

abbrev pub decreases-change_member : goal.decreases-change_member
decreases-change_member l = 2 * length l.path.now + 1
