use Rattle.std.proofs.Common.{◌+◌, ◌-◌, ◌*◌, arith}
use Rattle.std.proofs.lemmas.Grind.{common_steps}
use Rattle.manifest_bytes.proofs.NumberLemmas.{number_steps, parts, taken_last, taken_more}
use Rattle.manifest_bytes.proofs.reading.Reader.number.Goals as goal

pub returns-in_err-byte-clause-reads : goal.returns-in_err-byte-clause-reads
returns-in_err-byte-clause-reads c = c.loop-byte.invariant.reads _ _ (λ n rest fits h. grind (arith, number_steps))

pub returns-in_err-checked_mul-clause-reads : goal.returns-in_err-checked_mul-clause-reads
returns-in_err-checked_mul-clause-reads c = c.loop-byte.invariant.reads _ _
    (λ n rest fits h. grind (arith, number_steps))

pub returns-in_err-number-clause-reads : goal.returns-in_err-number-clause-reads
returns-in_err-number-clause-reads c = c.loop-byte.invariant.reads _ _ (λ n rest fits h. grind (arith, number_steps))

pub returns-then-byte-lt128-clause-reads : goal.returns-then-byte-lt128-clause-reads
returns-then-byte-lt128-clause-reads c = c.loop-byte.invariant.reads _ _ (λ n rest fits h. grind (arith, number_steps))

pub returns-in_err-unit-clause-reads : goal.returns-in_err-unit-clause-reads
returns-in_err-unit-clause-reads c = c.loop-byte.invariant.reads _ _ (λ n rest fits h. grind (arith, number_steps))

pub returns-then-byte-lt128-clause-held : goal.returns-then-byte-lt128-clause-held
returns-then-byte-lt128-clause-held c =
    let all = c.loop-byte.invariant.held c.in_ok-byte.byte c.byte.new.self.left.now
    (rw c.in_ok-byte.ensures (taken_last _ _ c.if-byte-lt128.true)) in
    grind (arith, common_steps)

pub loop-byte-preserved : goal.loop-byte-preserved
loop-byte-preserved c = record {
  reads = λ result new next. c.loop-byte.invariant.reads _ _
      (λ n rest fits h. grind (arith, number_steps, parts c.loop-byte.unit n, next));
  held = λ n rest h.
      let all = c.loop-byte.invariant.held (c.in_ok-byte.byte - 128 + 128 * n) rest
      (rw c.in_ok-byte.ensures (taken_more _ n _ rest c.if-byte-lt128.false h)) in
      grind (arith, common_steps, parts c.loop-byte.unit (c.in_ok-byte.byte - 128 + 128 * n));
  fewer = grind (arith, common_steps);
}
