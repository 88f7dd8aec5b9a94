use Rattle.std.proofs.Common.{ap, ◌∙◌, arith}
use Rattle.std.proofs.lemmas.Grind.{common_steps}
use Rattle.manifest_fault.specs.Placed.{placed_in}
use Rattle.manifest_fault.proofs.FindingTrees.{within, first_under}
use Rattle.manifest_fault.proofs.findings.+first.Goals as goal

pub first_in-returns-in_ok-path_under-in-Some : goal.first_in-returns-in_ok-path_under-in-Some
first_in-returns-in_ok-path_under-in-Some g t c =
    let said = ap placed_in c.in-Within.is ∙ within c.in-Within.step c.in-Within.nodes in
    grind (arith, common_steps, said, first_under)

pub first_in-returns-in-None : goal.first_in-returns-in-None
first_in-returns-in-None g t c =
    let said = ap placed_in c.in-Within.is ∙ within c.in-Within.step c.in-Within.nodes in
    grind (arith, common_steps, said, first_under)
