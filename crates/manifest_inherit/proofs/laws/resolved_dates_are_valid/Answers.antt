use Rattle.manifest_inherit.proofs.KeptLemmas.{resolved_dates_are_valid}
use Rattle.manifest_inherit.proofs.laws.resolved_dates_are_valid.Goals as goal

pub returns : goal.returns
returns c = resolved_dates_are_valid
