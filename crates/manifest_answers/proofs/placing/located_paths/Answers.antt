use Rattle.std.proofs.Common.{inr}
use Rattle.manifest_answers.proofs.placing.located_paths.Goals as goal

pub returns : goal.returns
returns c = inr (c.in-Some.places, rw c.in-Some.is at c.in_ok-places.ensures, c.in_ok-all.ensures)
