use Rattle.std.proofs.Common.{arith}
use Rattle.std.proofs.lemmas.Grind.{common_steps}
use Rattle.manifest_fault.proofs.FindingTrees.{within}
use Rattle.manifest_fault.proofs.findings.Findings.and_within.Goals as goal

pub returns : goal.returns
returns g c =
    let said = within c.args.step c.args.more.nodes in
    grind (arith, common_steps, said)
