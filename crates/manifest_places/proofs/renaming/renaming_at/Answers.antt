use Rattle.std.proofs.Common.{◌≡◌, [], ◌∷◌, ◌++◌, string_bytes, ap, ◌∙◌}
use Rattle.std.proofs.lemmas.List.{map-append}
use Rattle.manifest_places.specs.Paths.{step_of, path_of}
use Rattle.manifest_places.specs.Changes.{change_at_of, rename}
use Rattle.manifest_places.proofs.renaming.renaming_at.Goals as goal

pub returns-in_ok-made-in-Key : goal.returns-in_ok-made-in-Key
returns-in_ok-made-in-Key c =
    let front = c.in-Some.front.now in
    let last = c.in-Some.last.now in
    let name = string_bytes c.in-Key.key in
    let made : change_at_of c.in_ok-made-in-Key.made ≡ (path_of front, rename name c.args.name.now) =
    c.in_ok-made-in-Key.ensures
    ∙ ap (λ k. (path_of front, rename k (string_bytes c.in_ok-new-in-Key.new)))
    (c.in_ok-old-in-Key.ensures.ok ∙ c.as_str.ensures.value)
    ∙ ap (λ k. (path_of front, rename name k)) c.in_ok-new-in-Key.ensures.ok in (
      path_of front,
      name,
      ap path_of c.in-Some.ensures.cases.0 ∙ map-append step_of front (last ∷ [])
          ∙ ap (λ s. path_of front ++ step_of s ∷ []) c.in-Key.is,
      made,
    )
