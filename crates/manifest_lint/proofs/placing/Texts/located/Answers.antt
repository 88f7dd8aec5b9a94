use Rattle.std.proofs.Common.{rules}
use Rattle.manifest_lint.proofs.placing.Texts.located.Goals as goal

-- by the places that were found
pub returns-in-Some : goal.returns-in-Some
returns-in-Some c = (c.in-Some.places, search rules, c.locate.ensures)
