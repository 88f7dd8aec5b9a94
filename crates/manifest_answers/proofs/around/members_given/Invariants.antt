use Rattle.std.proofs.Common.{take}
use Rattle.std.specs.List.{AllByRecursion}
use Rattle.manifest_answers.specs.Checked.{IsMemberText}
use Rattle.manifest_answers.proofs.around.members_given.Given as goal

-- the paths so far are texts
abbrev pub invariant-loop-member : goal.invariant-loop-member
invariant-loop-member l = AllByRecursion IsMemberText (take l.member-index l.given)
