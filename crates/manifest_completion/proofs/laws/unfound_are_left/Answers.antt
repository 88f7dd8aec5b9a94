use Rattle.manifest_completion.proofs.UnfoundLaws.{unfound_are_left}
use Rattle.manifest_completion.proofs.laws.unfound_are_left.Goals as goal

pub returns : goal.returns
returns c = unfound_are_left
