use Rattle.std.proofs.Common.{length}
use Rattle.manifest_places.proofs.keys.+are_parts.Given as goal

abbrev pub decreases-are_parts : goal.decreases-are_parts
decreases-are_parts l = length l.parts.now
