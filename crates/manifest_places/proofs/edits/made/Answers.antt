use Rattle.std.proofs.Common.{◌≡◌, List, [], ◌∷◌, map, string_bytes, reverse, IsPermutation, refl, sym, subst, ap, ◌∙◌, rules}
use Rattle.std.proofs.lemmas.List.Sorted.{IsPermutation-refl, IsPermutation-map, IsNonDecreasingBy-from_sort_by_key}
use Rattle.manifest_places.proofs.PlanLemmas.{in_order}
use mathlib.Core.List.{reverse_aux}
use Rattle.manifest_places.specs.Paths.{Text}
use Rattle.manifest_places.specs.Changes.{ChangeAt, change_at_of}
use Rattle.manifest_places.specs.Splices.{Splice, splice_of}
use Rattle.manifest_places.specs.Places.{Place, place_of, ArePlaces, IsEdited}
use Rattle.manifest_places.specs.Edits.{plan_of, edit_in}
use Rattle.manifest_places.specs.declared.places.Place.{Place as CodePlace}
use Rattle.manifest_places.proofs.edits.made.Goals as goal

map_back : {A B : Type 0} (f : A → B) (xs acc : List A)
    → map f (reverse_aux xs acc) ≡ reverse_aux (map f xs) (map f acc)
map_back f [] acc = refl
map_back f (x ∷ xs) acc = map_back f xs (x ∷ acc)

pub returns-in-Some-clause-made : goal.returns-in-Some-clause-made
returns-in-Some-clause-made c =
    let text = c.args.text.now in
    let plans = map plan_of c.args.plans.items in
    let new = string_bytes c.in-Some.new in
    let places = c.sort_by_key.new.self.items in
    let sorted = c.sort_by_key-2.new.self.items in
    let At : List CodePlace → Type 0 = λ ps. ArePlaces text (map place_of ps) in
    let back = ap (map change_at_of) c.reverse.ensures.items
    ∙ map_back change_at_of c.in_ok-parts.parts.changes.items [] ∙ ap reverse c.in_ok-parts.ensures.changes in
    let By : List Splice → Type 0 = λ ss. IsEdited text ss (map change_at_of c.reverse.new.self.items) new in
    let Of : List ChangeAt → Type 0 = λ cs. IsEdited text (map splice_of sorted) cs new in
    let From : List Splice → Type 0 = λ ss. IsPermutation ss (map splice_of sorted) in
    let FromPlaces : List Place → Type 0 = λ ps. IsPermutation ps (map place_of places) in
    let moved = IsPermutation-map splice_of c.in_ok-parts.parts.splices.items sorted c.in_ok-sort_by_key-2.ensures.permutation in
    let moved_places = IsPermutation-map place_of c.in_ok-parts.parts.places.items places c.in_ok-sort_by_key.ensures.permutation in
    let up = IsNonDecreasingBy-from_sort_by_key (λ (p : CodePlace). p.from) places c.in_ok-sort_by_key.ensures.sorted
    (λ a r q k. search rules) in
    let made = rw c.in-Some.is at c.in_ok-new.ensures in
    record {
      plans = plans;
      places = map place_of places;
      planned = (IsPermutation-refl (map edit_in plans), c.requires.planned);
      ordered = (subst FromPlaces c.in_ok-parts.ensures.places moved_places, in_order places up);
      there = subst At c.as_slice.ensures.value (c.in_ok-are_places_in.ensures.0 c.if-not-branch.false);
      opened = rw c.in_ok-parts.ensures.headers at c.in_ok-are_opened.ensures c.if-not-branch-2.false;
      whole = subst From c.in_ok-parts.ensures.splices moved;
      edited = subst Of back (subst By (ap (map splice_of) c.as_slice-2.ensures.value) made);
    }

pub returns-clause-refused : goal.returns-clause-refused
returns-clause-refused c =
    let text = c.args.text.now in
    let plans = map plan_of c.args.plans.items in
    let sorted = c.sort_by_key-2.new.self.items in
    let back = ap (map change_at_of) c.reverse.ensures.items
    ∙ map_back change_at_of c.in_ok-parts.parts.changes.items [] ∙ ap reverse c.in_ok-parts.ensures.changes in
    let By : List Splice → Type 0 = λ ss.
    (new : Text) → IsEdited text ss (map change_at_of c.reverse.new.self.items) new → ⊥ in
    let Of : List ChangeAt → Type 0 = λ cs. (new : Text) → IsEdited text (map splice_of sorted) cs new → ⊥ in
    let From : List Splice → Type 0 = λ ss. IsPermutation ss (map splice_of sorted) in
    let moved = IsPermutation-map splice_of c.in_ok-parts.parts.splices.items sorted c.in_ok-sort_by_key-2.ensures.permutation in
    let none = rw c.in-None.is at c.in_ok-new.ensures in (
      map splice_of sorted,
      subst From c.in_ok-parts.ensures.splices moved,
      subst Of back (subst By (ap (map splice_of) c.as_slice-2.ensures.value) none),
    )

pub returns-then-not-branch-clause-refused : goal.returns-then-not-branch-clause-refused
returns-then-not-branch-clause-refused c =
    let text = c.args.text.now in
    let places = c.sort_by_key.new.self.items in
    let At : List CodePlace → Type 0 = λ ps. ArePlaces text (map place_of ps) in
    let FromPlaces : List Place → Type 0 = λ ps. IsPermutation ps (map place_of places) in
    let moved = IsPermutation-map place_of c.in_ok-parts.parts.places.items places c.in_ok-sort_by_key.ensures.permutation in
    let up = IsNonDecreasingBy-from_sort_by_key (λ (p : CodePlace). p.from) places c.in_ok-sort_by_key.ensures.sorted
    (λ a r q k. search rules) in (
      map place_of places,
      (subst FromPlaces c.in_ok-parts.ensures.places moved, in_order places up),
      λ are.
          let good = c.in_ok-are_places_in.ensures.1 (subst At (sym c.as_slice.ensures.value) are) in
          search rules,
    )
