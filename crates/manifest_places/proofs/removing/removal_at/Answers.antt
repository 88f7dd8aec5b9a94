use Rattle.std.proofs.Common.{[], ◌∷◌, ap, ◌∙◌}
use Rattle.std.proofs.lemmas.List.{map-append}
use Rattle.manifest_places.specs.Paths.{step_of, path_of}
use Rattle.manifest_places.proofs.removing.removal_at.Goals as goal

pub returns-in_ok-made-in-Some : goal.returns-in_ok-made-in-Some
returns-in_ok-made-in-Some c =
    let front = c.in-Some.front.now in
    let last = c.in-Some.last.now in (
      path_of front,
      step_of last,
      ap path_of c.in-Some.ensures.cases.0 ∙ map-append step_of front (last ∷ []),
      c.in_ok-made-in-Some.ensures ∙ ap (λ x. (path_of front, x)) c.in_ok-change-in-Some.ensures,
    )
