use Rattle.std.proofs.Common.{rules}
use Rattle.manifest_answers.specs.Checked.{IsMemberText}
use Rattle.manifest_answers.proofs.GivenLemmas.{refuses_all_texts}
use Rattle.manifest_answers.proofs.around.members_given.Goals as goal

pub returns-in-Err-clause-refused : goal.returns-in-Err-clause-refused
returns-in-Err-clause-refused c = refuses_all_texts IsMemberText c.args.given.now c.loop-member.member-index _ c.in-Err.refused (search rules) c.in-Err.ensures.refused
