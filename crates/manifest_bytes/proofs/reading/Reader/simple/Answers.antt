use Rattle.std.proofs.Common.{arith}
use Rattle.std.proofs.lemmas.Grind.{common_steps}
use Rattle.toml.proofs.Views.{view-Datetime, view-Float}
use Rattle.manifest_bytes.proofs.TagLemmas.{tag_datetime, bits_fit, bits_back}
use Rattle.manifest_bytes.proofs.reading.Reader.simple.Goals as goal

pub returns-in_err-datetime-in-6-clause-reads : goal.returns-in_err-datetime-in-6-clause-reads
returns-in_err-datetime-in-6-clause-reads c d rest fits simple h =
    let (t, is, left) = tag_datetime d _ rest (rw c.in-6.is at h) in
    let read = c.datetime.ensures.reads t rest (rw is at fits) left in
    grind (arith, common_steps)

pub returns-in_ok-datetime-in-6-clause-reads : goal.returns-in_ok-datetime-in-6-clause-reads
returns-in_ok-datetime-in-6-clause-reads c d rest fits simple h =
    let (t, is, left) = tag_datetime d _ rest (rw c.in-6.is at h) in
    let read = c.datetime.ensures.reads t rest (rw is at fits) left in
    grind (arith, common_steps, view-Datetime)

pub returns-in_err-number-in-9-clause-reads : goal.returns-in_err-number-in-9-clause-reads
returns-in_err-number-in-9-clause-reads c d rest fits simple h = grind (arith, common_steps, bits_fit)

pub returns-in_ok-number-in-9-clause-reads : goal.returns-in_ok-number-in-9-clause-reads
returns-in_ok-number-in-9-clause-reads c d rest fits simple h =
    grind (arith, common_steps, bits_fit, bits_back, view-Float)
