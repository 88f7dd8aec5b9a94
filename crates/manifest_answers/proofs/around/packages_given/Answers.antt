use Rattle.std.proofs.Common.{rules}
use Rattle.manifest_answers.specs.Checked.{IsPackageText}
use Rattle.manifest_answers.proofs.GivenLemmas.{refuses_all_texts}
use Rattle.manifest_answers.proofs.around.packages_given.Goals as goal

pub returns-in-Err-clause-refused : goal.returns-in-Err-clause-refused
returns-in-Err-clause-refused c = refuses_all_texts IsPackageText c.args.given.now c.loop-package.package-index _ c.in-Err.refused (search rules) c.in-Err.ensures.refused
