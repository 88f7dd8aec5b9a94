use Rattle.std.proofs.Common.{arith, rules}
use Rattle.cargo_manifest.proofs.CountLemmas.{counted}
use Rattle.cargo_manifest.proofs.printed.key_size.Goals as goal

pub returns-in-Ok : goal.returns-in-Ok
returns-in-Ok c =
    let h = c.write_key.ensures c.new-f.ensures.plain (search rules) in
    let e = counted (λ w. w.bytes) _ (λ w text v k. k) _ _ _ h.wrote in
    rw (c.into_inner.ensures, e, c.new-f.ensures.writer) (omega arith)
