use Rattle.manifest_value.proofs.WalkLemmas.{word_at}
use Rattle.manifest_value.proofs.walking.row_of.Goals as goal

pub returns-in-Some : goal.returns-in-Some
returns-in-Some c = (
  c.in-Some.ensures.0,
  c.loop-i-test.true,
  word_at c.args.rows.now c.loop-i.i _ c.args.key.now
      c.loop-i-test.true c.in-Some.ensures.1,
)
