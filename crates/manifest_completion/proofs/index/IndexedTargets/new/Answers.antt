use Rattle.manifest_schema.specs.Prelude.{append_assoc, iter_rest}
use Rattle.std.proofs.Common.{◌++◌, ◌∷◌, [], ap, ◌∙◌}
use Rattle.manifest_completion.specs.Steps.{discovered_content, all_discovered_content}
use Rattle.manifest_completion.proofs.IndexLemmas.{indexes_more}
use Rattle.manifest_completion.proofs.index.IndexedTargets.new.Goals as goal

pub loop-target_found-preserved : goal.loop-target_found-preserved
loop-target_found-preserved c =
    let (done, front, indexed) = c.loop-target_found.invariant in
    let x = c.in-Some.target_found.now in let left = iter_rest c.next.new.self.iter in
    let moved = front ∙ ap (λ xs. xs ++ done) c.in-Some.ensures.steps ∙ append_assoc left (x ∷ []) done in (
      x ∷ done,
      moved,
      indexes_more c.loop-target_found.paths c.insert.new.self (discovered_content x)
          (all_discovered_content done) c.as_str.result c.as_str-in-loop-target_found.result c.as_str.ensures.value
          c.as_str-in-loop-target_found.ensures.value c.in_ok-insert.ensures.updates indexed,
    )
