use Rattle.cargo_manifest.proofs.ParsedLemmas.{read_dates_are_valid}
use Rattle.cargo_manifest.proofs.laws.parsed_dates_are_valid.Goals as goal

pub returns-clause-read : goal.returns-clause-read
returns-clause-read c = read_dates_are_valid
