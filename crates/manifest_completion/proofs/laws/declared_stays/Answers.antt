use Rattle.manifest_completion.proofs.UnchangedLaws.{declared_stays}
use Rattle.manifest_completion.proofs.laws.declared_stays.Goals as goal

pub returns : goal.returns
returns c = declared_stays
