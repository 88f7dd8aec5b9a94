use Rattle.std.proofs.Common.{◌≡◌, ◌+◌, List, [], ◌∷◌, ◌++◌, length, map, slice_get, Some, refl, sym, ap, ◌∙◌, arith}
use Rattle.std.proofs.lemmas.List.{map-append, length-map}
use Rattle.manifest_places.specs.Paths.{step_of, path_of}
use Rattle.manifest_places.specs.Keys.{span_of}
use Rattle.manifest_places.proofs.renaming.part_for.Goals as goal

first_at : {A B : Type 0} (f : A → B) (ys : List A) (x : A) (more : List A)
    → slice_get (map f (ys ++ x ∷ more)) (length ys) ≡ Some (f x)
first_at f [] x more = refl
first_at f (y ∷ ys) x more = first_at f ys x more

pub returns-in-Some : goal.returns-in-Some
returns-in-Some c =
    let parts = c.args.parts.now in
    let before = c.split_at-2.result.0.now in
    let front = c.split_at.result.0.now in
    let after = c.split_at.result.1.now in
    let part = c.in-Some.part.now in
    let all : parts ≡ before ++ part ∷ c.in-Some._parts_after.now = c.split_at-2.ensures.by_index.0
    ∙ ap (λ t. before ++ t) c.in-Some.ensures.cases.0 in
    let there = ap (λ t. slice_get (map span_of t) (length before)) all
    ∙ first_at span_of before part c.in-Some._parts_after.now in
    let same : path_of front ≡ path_of c.args.path.now = c.if-not-same_steps.ensures refl in
    let whole = ap path_of (sym c.as_slice-whole.ensures.value ∙ c.split_at.ensures.by_index.0)
    ∙ map-append step_of front after ∙ ap (λ t. t ++ path_of after) same in
    let many : length parts ≡ length before + length after + 1 = omega arith in
    (length before, path_of after, whole, there, rw (length-map parts span_of, length-map after step_of) many)
