use Rattle.std.proofs.Common.{◌+◌, drop, arith}
use Rattle.std.proofs.lemmas.Grind.{common_steps}
use Rattle.manifest_completion.specs.Index.{paths_in}
use Rattle.manifest_completion.specs.Steps.{discovered_content, all_discovered_content}
use Rattle.manifest_completion.proofs.IndexLemmas.{added_more}
use Rattle.manifest_completion.proofs.targets.push_found.Goals as goal

pub loop-target_found-preserved : goal.loop-target_found-preserved
loop-target_found-preserved c =
    let rest = all_discovered_content (drop (c.loop-target_found.target_found-index + 1) c.args.discovered.now) in
    let step = added_more (paths_in c.loop-target_found.taken) (paths_in c.add_text.new.texts)
    (discovered_content c.target_found-item.result) rest c.as_str.result.now c.in_ok-add_text.field-0
    c.as_str.ensures.value c.in_ok-add_text.ensures.added c.in_ok-add_text.ensures.new in
    grind (arith, common_steps, step)
