use Rattle.std.proofs.Common.{List, map, subst, inr, rules}
use Rattle.std.proofs.lemmas.List.Sorted.{IsPermutation-map, IsNonDecreasingBy-from_sort_by_key}
use Rattle.manifest_places.specs.Places.{place_of}
use Rattle.manifest_places.specs.Headers.{AreHeaders}
use Rattle.manifest_places.specs.declared.places.Place.{Place as CodePlace}
use Rattle.manifest_places.proofs.PlanLemmas.{in_order}
use Rattle.manifest_places.proofs.edits.are_opened.Goals as goal

pub returns : goal.returns
returns c good =
    let headers = c.args.headers.items in
    let ordered = c.sort_by_key.new.self.items in
    let moved = IsPermutation-map place_of headers ordered c.in_ok-sort_by_key.ensures.permutation in
    let up = IsNonDecreasingBy-from_sort_by_key (λ (p : CodePlace). p.from) ordered c.in_ok-sort_by_key.ensures.sorted
    (λ a r q k. search rules) in
    let At : List CodePlace → Type 0 = λ hs. AreHeaders c.args.text.now (map place_of hs) in
    inr (map place_of ordered, (moved, in_order ordered up), subst At c.as_slice.ensures.value (c.in_ok-good.ensures.0 good))
