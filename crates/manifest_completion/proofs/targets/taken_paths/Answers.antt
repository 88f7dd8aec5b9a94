use Rattle.std.proofs.Common.{map, drop, arith, ◌+◌}
use Rattle.std.proofs.lemmas.Grind.{common_steps}
use Rattle.manifest_parts.specs.Records.{product_content}
use Rattle.manifest_completion.specs.Targets.{paths_of, pathed}
use Rattle.manifest_completion.proofs.IndexLemmas.{same_append}
use Rattle.manifest_completion.proofs.targets.taken_paths.Goals as goal
use Rattle.manifest_completion.proofs.targets.taken_paths.Goals.{in-Some+in_ok-add_text, in_default}

pub loop-target-preserved : goal.loop-target-preserved
loop-target-preserved c = λ q.
    let left = paths_of (map (pathed c.args.discovered.now) (map product_content (drop (c.loop-target.target-index + 1)
    c.args.targets.now))) in
    elim c.match-path_of.branch [
      | in-Some+in_ok-add_text w ↦ (let step = same_append _ _ left w.in_ok-add_text.ensures.added q in
          grind (arith, common_steps, step, c.loop-target.invariant q))
      | in_default w ↦ grind (arith, common_steps, c.loop-target.invariant q)
    ]
