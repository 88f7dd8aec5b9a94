use Rattle.std.proofs.Common.{map}
use Rattle.manifest_places.specs.Keys.{span_of}
use Rattle.manifest_places.proofs.renaming.key_renamed.Goals as goal

pub returns : goal.returns
returns c = (
  map span_of c.as_slice-parts.result.now,
  span_of c.in-Some.part,
  c.in_ok-is_key.ensures.0 c.if-not-branch.false,
  c.in-Some.ensures,
  c.in_ok-splice.ensures,
)
