use Rattle.std.proofs.Common.{◌++◌, ◌∙◌, arith}
use Rattle.std.proofs.lemmas.Grind.{common_steps}
use Rattle.std.proofs.lemmas.Option.{same_Some}
use Rattle.toml.proofs.Views.{view-String, view-Array, view-Table}
use Rattle.manifest_bytes.specs.Encoded.{encoded}
use Rattle.manifest_bytes.proofs.TagLemmas.{not_empty, tag_string, tag_array, tag_table, passed_on}
use Rattle.manifest_bytes.proofs.ItemLemmas.{item_next, items_read}
use Rattle.manifest_bytes.proofs.MemberLemmas.{member_next, members_read}
use Rattle.manifest_bytes.proofs.reading.+reading.Goals as goal

pub read_value-returns-in-None-clause-reads : goal.read_value-returns-in-None-clause-reads
read_value-returns-in-None-clause-reads t c d rest fits h = not_empty d rest (rw c.in-None.ensures at h)

pub read_value-returns-in-Some-2-clause-reads : goal.read_value-returns-in-Some-2-clause-reads
read_value-returns-in-Some-2-clause-reads t c d rest fits h =
    let all = rw (c.in-Some-eq1.ensures, c.in-Some-eq1.field-0-test) at h in
    let (s, is, left) = tag_string d _ rest all in
    let read = c.in_ok-text-in-Some-eq1.ensures.reads s rest (rw is at fits) left in
    grind (arith, common_steps, view-String)

pub read_value-returns-in-None-2-clause-reads : goal.read_value-returns-in-None-2-clause-reads
read_value-returns-in-None-2-clause-reads t c d rest fits h =
    let all = rw (c.in-Some-eq1.ensures, c.in-Some-eq1.field-0-test) at h in
    let (s, is, left) = tag_string d _ rest all in
    let read = c.in_ok-text-in-Some-eq1.ensures.reads s rest (rw is at fits) left in
    grind (arith, common_steps, view-String)

pub read_value-returns-in_ok-read_items-in-Some-eq7-clause-reads :
    goal.read_value-returns-in_ok-read_items-in-Some-eq7-clause-reads
read_value-returns-in_ok-read_items-in-Some-eq7-clause-reads t c d rest fits h =
    let all = rw (c.in-Some-eq7.ensures, c.in-Some-eq7.field-0-test) at h in
    let (ds, is, left) = tag_array d _ rest all in
    let read = c.read_items.ensures.reads ds rest (rw is at fits) left in
    grind (arith, common_steps, view-Array)

pub read_value-returns-in_err-read_items-in-Some-eq7-clause-reads :
    goal.read_value-returns-in_err-read_items-in-Some-eq7-clause-reads
read_value-returns-in_err-read_items-in-Some-eq7-clause-reads t c d rest fits h =
    let all = rw (c.in-Some-eq7.ensures, c.in-Some-eq7.field-0-test) at h in
    let (ds, is, left) = tag_array d _ rest all in
    let read = c.read_items.ensures.reads ds rest (rw is at fits) left in
    grind (arith, common_steps, view-Array)

pub read_value-returns-in_ok-read_members-in-Some-eq8-clause-reads :
    goal.read_value-returns-in_ok-read_members-in-Some-eq8-clause-reads
read_value-returns-in_ok-read_members-in-Some-eq8-clause-reads t c d rest fits h =
    let all = rw (c.in-Some-eq8.ensures, c.in-Some-eq8.field-0-test) at h in
    let (ms, is, left) = tag_table d _ rest all in
    let read = c.read_members.ensures.reads ms rest (rw is at fits) left in
    grind (arith, common_steps, view-Table)

pub read_value-returns-in_err-read_members-in-Some-eq8-clause-reads :
    goal.read_value-returns-in_err-read_members-in-Some-eq8-clause-reads
read_value-returns-in_err-read_members-in-Some-eq8-clause-reads t c d rest fits h =
    let all = rw (c.in-Some-eq8.ensures, c.in-Some-eq8.field-0-test) at h in
    let (ms, is, left) = tag_table d _ rest all in
    let read = c.read_members.ensures.reads ms rest (rw is at fits) left in
    grind (arith, common_steps, view-Table)

pub read_items-returns-in_err-item-clause-reads : goal.read_items-returns-in_err-item-clause-reads
read_items-returns-in_err-item-clause-reads t c ds rest fits h =
    let (counted, long, left) = c.loop.invariant.left ds rest fits h in
    let next = item_next ds _ _ _ rest fits.1 left (omega arith) in
    let refused = c.in_err-item.ensures.reads next.d next.after next.fits next.bytes in
    passed_on _ _ _ _ _ _ c.from_residual-in_err-item.ensures.1 next.inside refused

pub read_items-loop-preserved : goal.read_items-loop-preserved
read_items-loop-preserved t c = record {
  left = λ ds rest fits h.
      let (counted, long, left) = c.loop.invariant.left ds rest fits h in
      let next = item_next ds _ _ _ rest fits.1 left (omega arith) in
      let (low, (same, new)) = c.in_ok-item.ensures.reads next.d next.after next.fits next.bytes in
      let pushed = c.in_ok-push.ensures.items in
      (counted, rw pushed (grind (arith, common_steps)), rw pushed (next.read _ _ low same new));
  fewer = omega (arith, c.in_ok-item.ensures.shrinks);
}

pub read_items-returns-clause-reads : goal.read_items-returns-clause-reads
read_items-returns-clause-reads t c ds rest fits h =
    let (counted, long, left) = c.loop.invariant.left ds rest fits h in
    items_read ds _ _ _ rest left (omega arith)

pub read_members-returns-in_default-clause-reads : goal.read_members-returns-in_default-clause-reads
read_members-returns-in_default-clause-reads t c ms rest fits h =
    let (counted, long, left) = c.loop.invariant.left ms rest fits h in
    let next = member_next ms _ _ _ rest fits.1 left (omega arith) in
    let read = c.in_ok-key.ensures.reads next.k (encoded next.d ++ next.after) next.named next.bytes in
    grind (arith, common_steps)

pub read_members-returns-in_err-member-clause-reads : goal.read_members-returns-in_err-member-clause-reads
read_members-returns-in_err-member-clause-reads t c ms rest fits h =
    let (counted, long, left) = c.loop.invariant.left ms rest fits h in
    let next = member_next ms _ _ _ rest fits.1 left (omega arith) in
    let (named, mid) = rw c.in-Some.is at (c.in_ok-key.ensures.reads next.k (encoded next.d ++ next.after) next.named
    next.bytes) in
    let refused = c.in_err-member.ensures.reads next.d next.after next.fits mid in
    passed_on _ _ _ _ _ _ c.from_residual-in_err-member.ensures.1 next.inside refused

pub read_members-loop-preserved : goal.read_members-loop-preserved
read_members-loop-preserved t c = record {
  left = λ ms rest fits h.
      let (counted, long, left) = c.loop.invariant.left ms rest fits h in
      let next = member_next ms _ _ _ rest fits.1 left (omega arith) in
      let (named, mid) = rw c.in-Some.is at (c.in_ok-key.ensures.reads next.k (encoded next.d ++ next.after) next.named
      next.bytes) in
      let (low, (same, new)) = c.in_ok-member.ensures.reads next.d next.after next.fits mid in
      let last = c.in_ok-put.ensures.put ∙ next.last _ _ (same_Some _ _ named) in
      (counted, rw last (grind (arith, common_steps)), rw last (next.read _ _ _ (same_Some _ _ named) low same new));
  fewer = omega (
    arith,
    rw c.in-Some.is at c.in_ok-key.ensures.shrinks,
    c.in_ok-member.ensures.shrinks,
    c.loop.invariant.fewer,
  );
}

pub read_members-returns-clause-reads : goal.read_members-returns-clause-reads
read_members-returns-clause-reads t c ms rest fits h =
    let (counted, long, left) = c.loop.invariant.left ms rest fits h in
    members_read ms _ _ _ rest left (omega arith)
