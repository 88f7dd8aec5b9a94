use Rattle.std.proofs.Common.{Some, option_map, sym, ap, ◌∙◌, inr}
use Rattle.std.proofs.lemmas.List.{map-append}
use Rattle.manifest_places.specs.Paths.{step_of, path_of}
use Rattle.manifest_places.specs.Keys.{key_steps}
use Rattle.manifest_places.proofs.putting.is_name_if_any.Goals as goal

pub returns : goal.returns
returns c good =
    let base = c.split_at.result.0.now in
    let more = c.split_at.result.1.now in
    let whole = ap path_of c.split_at.ensures.by_index.0 ∙ map-append step_of base more in
    let read = rw c.in-Some.is at c.in_ok-key.ensures in
    inr (path_of base, path_of more, whole, ap (option_map key_steps) (sym read) ∙ ap Some (c.is_key_of.ensures.0 good))
