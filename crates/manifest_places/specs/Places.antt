-- Places of several values in one text, shown by one other text, with a number in each of them.
use Rattle.std.specs.Prelude.{◌≡◌, ◌≢◌, ℕ, suc, pos, neg_ℤ, ◌≤◌, ◌^◌, [], ◌∷◌, ◌++◌, codes, List, length, Option, Some, MatchOption, decimal, ⊤}
use Rattle.toml.specs.Data.{Data, integer}
use Rattle.toml.specs.Parse.{parse_value}
use Rattle.manifest_places.specs.Paths.{Text, Path, path_of, document, value_at}
use Rattle.manifest_places.specs.Changes.{ChangeAt, set, with_change, with_changes}
use Rattle.manifest_places.specs.Splices.{Splice, range_of, IsRange, spliced, Ascend, IsSpliced}
use Rattle.manifest_places.specs.declared.places.Place.{Place as CodePlace}

-- a path, and a range of bytes in a text
pub record Place : Type 0 where
  pub path : Path
  pub from : ℕ
  pub to : ℕ

abbrev pub place_of : CodePlace → Place
place_of p = record { path = path_of p.path.items; from = p.from; to = p.to }

-- the first of the numbers that stand in places
abbrev pub first_number : ℕ
first_number = 1000000000

-- there are this many numbers at most
abbrev pub most_numbers : ℕ
most_numbers = 2 ^ 32

-- The numbers from -n down in the places: the first has -n, the second -n - 1, and so on. They have
-- a sign, since a `+` before a place would make a number without one of its own a number still.
abbrev pub numbers_put : ℕ → List Place → List Splice
numbers_put n [] = []
numbers_put n (p ∷ ps) =
    record { from = p.from; to = p.to; put = codes "-" ++ decimal n } ∷ numbers_put (suc n) ps

-- the number -n as a value
abbrev pub number : ℕ → Data
number n = integer (neg_ℤ (pos n))

-- the values at the paths are the numbers from -n down
abbrev pub HaveNumbers : Data → ℕ → List Place → Type 0
HaveNumbers d n [] = ⊤
HaveNumbers d n (p ∷ ps) = (value_at p.path d ≡ Some (number n)) × HaveNumbers d (suc n) ps

-- the range alone reads as e, which is not the number -n
abbrev pub ReadsAs : Text → ℕ → Place → Data → Type 0
ReadsAs text n p e =
    IsRange text p.from p.to × (parse_value (range_of text p.from p.to) ≡ Some e) × (e ≢ number n)

-- d' is d with what the range alone reads as at the path
abbrev pub IsRestored : Text → ℕ → Place → Data → Data → Type 0
IsRestored text n p d d' =
    (e : Data) × ReadsAs text n p e × (with_change p.path (set e) d ≡ Some d')

-- so with each of the places, one after the other
abbrev pub AreRestored : Text → ℕ → List Place → Data → Data → Type 0
AreRestored text n [] d d' = d ≡ d'
AreRestored text n (p ∷ ps) d d' =
    (x : Data) × IsRestored text n p d x × AreRestored text (suc n) ps x d'

-- The ranges ascend and are the places of the values at the paths, all at once: with a number of
-- its own in each of them the text is a document with these numbers at these paths, and this, with
-- what each range alone reads as at its path, is the document of the text.
pub record ArePlaces (text : Text) (places : List Place) : Type 0 where
  pub few : length places ≤ most_numbers
  pub old : Data
  pub new : Data
  pub is_document : document text ≡ Some old
  pub ascend : Ascend text 0 (numbers_put first_number places)
  pub is_new : document (spliced text 0 (numbers_put first_number places)) ≡ Some new
  pub numbered : HaveNumbers new first_number places
  pub restored : AreRestored text first_number places new old

-- The new text is the old one but for these ranges, and its document is the old one with these
-- changes.
pub record IsEdited (text : Text) (splices : List Splice) (cs : List ChangeAt) (new : Text)
    : Type 0 where
  pub before : Data
  pub after : Data
  pub is_document : document text ≡ Some before
  pub is_spliced : IsSpliced text splices new
  pub is_changed : document new ≡ Some after
  pub changed : with_changes cs before ≡ Some after

-- that text, where there is one
abbrev pub Edits : Text → List Splice → List ChangeAt → Option Text → Type 0
Edits text splices cs made =
    MatchOption made ((new : Text) → IsEdited text splices cs new → ⊥) (IsEdited text splices cs)
