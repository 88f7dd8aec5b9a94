-- All places of a text.
use Rattle.std.specs.Prelude.{[], ◌∷◌, List, map, ⊤}
use Rattle.manifest_places.specs.Paths.{Text}
use Rattle.manifest_places.specs.Places.{Place, place_of, ArePlaces}
use Rattle.manifest_places.specs.Headers.{AreHeaders}
use Rattle.manifest_places.specs.Keys.{Span, span_of, AreKeys}
use Rattle.manifest_places.specs.declared.keys.KeyParts.{KeyParts}
use Rattle.manifest_places.specs.declared.finding.Round.{Round}
use Rattle.manifest_places.specs.declared.finding.Places.{Places}

-- the ranges that the parts of a key have
abbrev pub parts_of : KeyParts → List Span
parts_of k = map span_of k.parts.items

-- values none of which stands in another one, and their keys
abbrev pub places_in : Round → List Place
places_in r = map place_of r.places.items

abbrev pub IsRound : Text → Round → Type 0
IsRound text r =
    ArePlaces text (places_in r) × AreKeys text (places_in r) (map parts_of r.keys.items)

abbrev pub AreRounds : Text → List Round → Type 0
AreRounds text [] = ⊤
AreRounds text (r ∷ rs) = IsRound text r × AreRounds text rs

-- what was found are places of values with their keys, and headers
abbrev pub AreFound : Text → Places → Type 0
AreFound text p = AreRounds text p.rounds.items × AreHeaders text (map place_of p.headers.items)
