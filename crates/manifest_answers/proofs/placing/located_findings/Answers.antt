use Rattle.std.proofs.Common.{subst}
use Rattle.manifest_answers.specs.Placed.{AreFoundIn}
use Rattle.manifest_answers.proofs.TreeLemmas.{paths_to_findings}
use Rattle.manifest_answers.proofs.placing.located_findings.Goals as goal

pub returns : goal.returns
returns c =
    subst (λ ps. AreFoundIn c.args.bytes.now ps c.in_ok-all.all.items) (paths_to_findings c.args.nodes.now)
    c.in_ok-all.ensures
