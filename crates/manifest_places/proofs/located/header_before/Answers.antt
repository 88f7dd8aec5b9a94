use Rattle.std.proofs.Common.{◌≡◌, ◌+◌, ◌≤◌, ◌<◌, subst, sym, arith}
use Rattle.std.proofs.Common.{IfSome, slice_get}
use Rattle.manifest_places.proofs.located.header_before.Goals as goal

pub returns : goal.returns
returns c =
    let at = c.args.at in
    let header = c.in_ok-header.header.now in
    let count : c.partition_point-count.result ≡ c.in-Some.last + 1 = omega arith in
    let before : header.from < at = omega arith in (
      c.in-Some.last,
      header,
      c.in_ok-_rest._rest,
      sym c.in_ok-header.ensures,
      c.range_of.ensures,
      rw c.as_slice.ensures.value at c.in_ok-_rest.ensures,
      before,
      subst (λ n. IfSome (slice_get c.args.headers.now n) (λ h. at ≤ h.from)) count
          (c.is_after.ensures c.if-not-is_after.false),
    )
