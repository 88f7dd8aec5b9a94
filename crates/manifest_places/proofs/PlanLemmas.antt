-- Places in the order of the text, and what is replaced at each of them.
use Rattle.std.proofs.Common.{◌<◌, List, [], ◌∷◌, ◌++◌, length, map, arith}
use Rattle.std.specs.List.{AllZip}
use Rattle.std.specs.List.Sorted.{IsNonDecreasingBy}
use Rattle.std.proofs.lemmas.List.{length-map, get_or-map}
use Rattle.std.proofs.lemmas.List.Sorted.{IsNonDecreasingBy-from_default}
use Rattle.manifest_places.specs.Places.{Place, place_of}
use Rattle.manifest_places.specs.declared.places.Place.{Place as CodePlace}

-- places that begin in order do so as places of the definitions
pub in_order : (xs : List CodePlace) → IsNonDecreasingBy (λ (p : CodePlace). p.from) xs
    → IsNonDecreasingBy (λ (p : Place). p.from) (map place_of xs)
in_order [] up = λ i j d le lt. absurd (omega arith)
in_order (x ∷ xs) up =
    IsNonDecreasingBy-from_default (λ (p : Place). p.from) (map place_of (x ∷ xs)) (place_of x)
    (λ i j le lt.
    let below : j < length (x ∷ xs) = rw (length-map (x ∷ xs) place_of) at lt in
    let one = get_or-map place_of (x ∷ xs) i x (place_of x) (omega arith) in
    let other = get_or-map place_of (x ∷ xs) j x (place_of x) below in
    rw (one, other) (up i j x le below))

-- one more pair
pub zipped_more : {A B X Y : Type 0} (R : A → B → Type 0) (f : X → A) (g : Y → B) (xs : List X) (ys : List Y)
    (x : X) (y : Y) → AllZip R (map f xs) (map g ys)
    → R (f x) (g y) → AllZip R (map f (xs ++ x ∷ [])) (map g (ys ++ y ∷ []))
zipped_more R f g [] [] x y all one = (one, tt)
zipped_more R f g [] (b ∷ ys) x y all one = absurd all
zipped_more R f g (a ∷ xs) [] x y all one = absurd all
zipped_more R f g (a ∷ xs) (b ∷ ys) x y all one = (all.0, zipped_more R f g xs ys x y all.1 one)
