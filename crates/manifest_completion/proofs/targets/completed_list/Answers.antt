use Rattle.std.proofs.Common.{arith}
use Rattle.std.proofs.lemmas.Grind.{common_steps}
use Rattle.manifest_completion.specs.Steps.{all_discovered_content}
use Rattle.manifest_completion.proofs.IndexLemmas.{added_same}
use Rattle.manifest_completion.proofs.targets.completed_list.Goals as goal
use Rattle.manifest_completion.proofs.targets.completed_list.Goals.{then-discovers+in_ok-taken+in_ok-push_found, else-discovers}

pub returns : goal.returns
returns c =
    let discovered = all_discovered_content c.args.discovered.now in
    elim c.if-discovers.branch [
      | then-discovers+in_ok-taken+in_ok-push_found w ↦ (let step = added_same _ _ discovered w.in_ok-taken.ensures in
          grind (arith, common_steps, step))
      | else-discovers w ↦ grind (arith, common_steps)
    ]
