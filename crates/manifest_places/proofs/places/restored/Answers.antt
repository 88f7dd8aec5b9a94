use Rattle.std.proofs.Common.{◌≡◌, ◌+◌, ◌<◌, suc, ◌∷◌, length, drop, map, option_map, sym, ap, subst, add-one, arith, ◌∙◌}
use Rattle.std.proofs.Math.Seq.{drop-cons}
use Rattle.std.proofs.lemmas.Option.{none-some}
use Rattle.toml.specs.View.{view}
use Rattle.manifest_places.specs.Places.{place_of, AreRestored}
use Rattle.manifest_places.proofs.RestoringLemmas.{none_restored, one_restored}
use Rattle.manifest_places.proofs.places.restored.Goals as goal

pub returns-in_default : goal.returns-in_default
returns-in_default c =
    let text = c.args.text.now in
    let number = c.loop-place.number in
    let place = c.place-item.result in
    let i = c.loop-place.place-index in
    let places = c.args.places.now in
    let within : i < length places = omega arith in
    let next : drop i places ≡ place ∷ drop (suc i) places = drop-cons places i place within
    ∙ ap (λ p. p ∷ drop (suc i) places) (sym c.place-item.is) in
    λ d. (
      (λ none. absurd (none-some d none)),
      (λ whole. none_restored text number (place_of place) (map place_of (drop (suc i) places)) (view c.loop-place.now)
          (option_map view c.in_ok-changed.field-0) c.in_ok-changed.ensures (ap (option_map view) c.in_default.is) d
          (subst (λ ps. AreRestored text number (map place_of ps) (view c.loop-place.now) d) next
          ((c.loop-place.invariant.1 d).1 whole))),
    )

pub loop-place-preserved : goal.loop-place-preserved
loop-place-preserved c =
    let text = c.args.text.now in
    let number = c.loop-place.number in
    let place = c.place-item.result in
    let i = c.loop-place.place-index in
    let places = c.args.places.now in
    let within : i < length places = omega arith in
    let next : drop i places ≡ place ∷ drop (i + 1) places = drop-cons places i place within
    ∙ ap (λ p. p ∷ drop (suc i) places) (sym c.place-item.is)
    ∙ ap (λ n. place ∷ drop n places) (sym (add-one i)) in
    let one = one_restored text number (number + 1) (place_of place) (map place_of (drop (i + 1) places))
    (view c.loop-place.now) (view c.in-Some.changed) (option_map view c.in_ok-changed.field-0) (add-one number)
    c.in_ok-changed.ensures (ap (option_map view) c.in-Some.is) in (
      omega arith,
      (λ d. (
        (λ rest. (c.loop-place.invariant.1 d).0
            (subst (λ ps. AreRestored text number (map place_of ps) (view c.loop-place.now) d) (sym next) ((one d).0 rest))),
        (λ whole. (one d).1
            (subst (λ ps. AreRestored text number (map place_of ps) (view c.loop-place.now) d) next
            ((c.loop-place.invariant.1 d).1 whole))),
      )),
    )
