use Rattle.manifest_schema.specs.Prelude.{keys_of, string_cmp}
use Rattle.std.proofs.Common.{◌++◌, ◌∷◌, [], String, Global, append_assoc, refl, sym, ap, ◌∙◌, subst}
use Rattle.std.specs.List.Sorted.{IsStrictlySortedBy}
use Rattle.std.specs.Vec.Iter.{into_iter_items}
use Rattle.manifest_value.proofs.EntryLemmas.{insert_last}
use Rattle.manifest_value.proofs.maps.map_of_list.Goals as goal

pub loop-key-preserved : goal.loop-key-preserved
loop-key-preserved g c =
    let es = c.loop-key.map.entries in
    let e : String Global × g.row.X.Denot = (c.in-Some.key, c.in-Some.x) in
    let left = into_iter_items c.next.new.self in
    let all = ap (λ r. es ++ r) (sym c.in-Some.ensures.steps.0) ∙ c.loop-key.invariant in
    let last = insert_last es es e left e.0 e.1 refl refl
    (subst (λ xs. IsStrictlySortedBy string_cmp (keys_of xs)) (sym all) c.requires) in
    ap (λ xs. xs ++ left) (c.in_ok-insert.ensures.entries ∙ last) ∙ append_assoc es (e ∷ []) left ∙ all
