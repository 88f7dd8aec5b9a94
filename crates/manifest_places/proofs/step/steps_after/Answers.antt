use Rattle.std.proofs.Common.{◌++◌, ap, ◌∙◌}
use Rattle.std.proofs.lemmas.List.{length-map}
use Rattle.manifest_places.specs.Paths.{path_of, step_of}
use Rattle.manifest_places.proofs.LocatedLemmas.{path_in_two}
use Rattle.manifest_places.proofs.step.steps_after.Goals as goal

pub returns-then-same_steps : goal.returns-then-same_steps
returns-then-same_steps c =
    let (within, begin_is, more_is, n, m) = c.in_ok-begin.ensures.cases in
    let begin = c.in_ok-begin.begin.now in
    let more = c.in_ok-begin.more.now in (
      path_of more,
      path_in_two c.args.path.now begin more _ begin_is more_is
          ∙ ap (λ p. p ++ path_of more) (c.same_steps.ensures c.if-same_steps.true),
      length-map more step_of,
    )
