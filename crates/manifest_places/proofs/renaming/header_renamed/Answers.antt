use Rattle.manifest_places.specs.Keys.{span_of}
use Rattle.manifest_places.proofs.renaming.header_renamed.Goals as goal

pub returns : goal.returns
returns c = (
  span_of c.in-Some.part.now,
  c.in_ok-is_part_of_header.ensures c.if-not-branch.false,
  c.in_ok-splice.ensures,
)
