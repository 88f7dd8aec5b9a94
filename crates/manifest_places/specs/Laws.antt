-- Laws of changes and of places.
use Rattle.std.specs.Prelude.{◌≡◌, ◌≢◌, ℕ, [], ◌∷◌, List, Option, Some, ⊤}
use Rattle.toml.specs.Data.{Data, Members, get_member}
use Rattle.toml.specs.Parse.{parse_value}
use Rattle.manifest_places.specs.Paths.{Text, Path, document, value_at, Apart}
use Rattle.manifest_places.specs.Changes.{changed_at, with_value, with_member, without_member}
use Rattle.manifest_places.specs.Splices.{range_of}
use Rattle.manifest_places.specs.Places.{Place, number, AreRestored, ArePlaces}

-- what was put at a path is the value there
abbrev pub PutIsThere : Type 0
PutIsThere = (p : Path) (e d d' : Data) → with_value p e d ≡ Some d' → value_at p d' ≡ Some e

-- a change leaves the value at each path that parts from the path of the changed value
abbrev pub OthersAreKept : Type 0
OthersAreKept =
    (p q : Path) (f : Data → Option Data) (d d' : Data) → Apart p q → changed_at p f d ≡ Some d'
    → value_at q d' ≡ value_at q d

-- an entry that is put into a table leaves each other entry, and so does one that is taken out
abbrev pub InsertKeepsOthers : Type 0
InsertKeepsOthers =
    (k j : Text) (e : Data) (ms ms' : Members) → k ≢ j → with_member k e ms ≡ Some ms'
    → get_member j ms' ≡ get_member j ms

abbrev pub RemoveKeepsOthers : Type 0
RemoveKeepsOthers =
    (k j : Text) (ms ms' : Members) → k ≢ j → without_member k ms ≡ Some ms'
    → get_member j ms' ≡ get_member j ms

-- the path parts from that of each place
abbrev pub ApartFromAll : List Place → Path → Type 0
ApartFromAll [] q = ⊤
ApartFromAll (p ∷ ps) q = Apart p.path q × ApartFromAll ps q

-- what is restored at places changes nothing at a path that parts from each of them
abbrev pub RestoringKeepsOthers : Type 0
RestoringKeepsOthers =
    (text : Text) (n : ℕ) (ps : List Place) (q : Path) (d d' : Data) → ApartFromAll ps q
    → AreRestored text n ps d d' → value_at q d' ≡ value_at q d

-- two paths at which a document has different numbers part
abbrev pub PlacesPart : Type 0
PlacesPart =
    (p q : Path) (d : Data) (n m : ℕ) → n ≢ m → value_at p d ≡ Some (number n)
    → value_at q d ≡ Some (number m) → Apart p q

-- what each range alone reads as is the value at its path
abbrev pub ReadAsValues : Text → Data → List Place → Type 0
ReadAsValues text d [] = ⊤
ReadAsValues text d (p ∷ ps) =
    (value_at p.path d ≡ parse_value (range_of text p.from p.to)) × ReadAsValues text d ps

-- so it is with the places of a text and its document
abbrev pub PlacesHaveValues : Type 0
PlacesHaveValues =
    (text : Text) (ps : List Place) (d : Data) → ArePlaces text ps → document text ≡ Some d
    → ReadAsValues text d ps
