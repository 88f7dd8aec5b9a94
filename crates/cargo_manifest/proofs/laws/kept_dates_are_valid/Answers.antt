use Rattle.cargo_manifest.proofs.CompletedLemmas.{completed_dates_are_valid}
use Rattle.cargo_manifest.proofs.laws.kept_dates_are_valid.Goals as goal

pub returns-clause-completed : goal.returns-clause-completed
returns-clause-completed c = completed_dates_are_valid
