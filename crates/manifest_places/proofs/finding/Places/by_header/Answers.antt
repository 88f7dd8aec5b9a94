use Rattle.std.proofs.Common.{refl, sym, ap, Some}
use Rattle.manifest_places.proofs.finding.Places.by_header.Goals as goal

pub returns : goal.returns
returns c = (
  refl,
  record {
    index = c.args.index;
    header = c.in_ok-header.header.now;
    more = c.in_ok-_more._more;
    is_header = rw c.as_slice.ensures.value at (sym c.in_ok-header.ensures);
    goes_on = rw c.as_slice-2.ensures.value at c.in_ok-_more.ensures;
    is_there = ap Some c.range_of.ensures;
    no_value = refl;
    no_key = refl;
  },
)
