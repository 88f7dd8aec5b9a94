use Rattle.std.proofs.Common.{◌≤◌, length}
use denote.Text.{Utf8}
use denote.Shadow.{shadow}
use Rattle.manifest_places.proofs.walk.key_parts.Given as goal

abbrev pub invariant-parts : goal.invariant-parts
invariant-parts l = shadow (Utf8 l.rest) × (length l.rest ≤ length l.fn.start)

abbrev pub decreases-parts : goal.decreases-parts
decreases-parts l = length l.rest
