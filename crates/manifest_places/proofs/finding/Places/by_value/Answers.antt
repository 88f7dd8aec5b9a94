use Rattle.std.proofs.Common.{refl, sym}
use Rattle.manifest_places.proofs.finding.Places.by_value.Goals as goal

pub returns : goal.returns
returns c = (
  refl,
  record {
    place = c.in_ok-place.place.now;
    key = c.in_ok-parts.parts.now;
    more = c.in_ok-more.more;
    is_entry = record {
      round = c.args.entry.round;
      index = c.args.entry.index;
      values = c.in_ok-round.round.now;
      is_round = rw c.as_slice.ensures.value at (sym c.in_ok-round.ensures);
      is_place = rw c.as_slice-2.ensures.value at (sym c.in_ok-place.ensures);
      is_key = rw c.as_slice-3.ensures.value at (sym c.in_ok-parts.ensures);
    };
    goes_on = rw c.as_slice-4.ensures.value at c.in_ok-more.ensures;
    is_value = c.value_after.ensures;
    is_key = rw c.as_slice-5.ensures.value at c.in_ok-key.ensures;
    is_header = rw c.as_slice-6.ensures.value at c.in_ok-header.ensures;
  },
)
