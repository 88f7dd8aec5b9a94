-- Headers of several tables in one text, shown by one other text, with a pair in each table.
use Rattle.std.specs.Prelude.{◌≡◌, ℕ, suc, ◌-◌, ◌≤◌, ◌==◌, if◌then◌else◌, [], ◌∷◌, ◌++◌, codes, List, length, slice_index, Some, IsSome, decimal, ⊤}
use Rattle.toml.specs.Data.{Data}
use Rattle.toml_parser.specs.Lexical.{skip_ws, left_bracket, right_bracket}
use Rattle.manifest_places.specs.Paths.{Text, document}
use Rattle.manifest_places.specs.Keys.{whole_key}
use Rattle.manifest_places.specs.Changes.{ChangeAt, remove, with_changes}
use Rattle.manifest_places.specs.Splices.{Splice, range_of, IsRange, spliced, Ascend}
use Rattle.manifest_places.specs.Places.{Place, first_number, most_numbers}

-- how many brackets a header has on each side
abbrev pub brackets : Text → ℕ
brackets header = if slice_index header 1 == left_bracket then 2 else 1

-- what stands between them
abbrev pub between_brackets : Text → Text
between_brackets header = range_of header (brackets header) (length header - brackets header)

-- a key between single or double brackets
abbrev pub IsHeader : Text → Type 0
IsHeader header =
    IsRange header (brackets header) (length header - brackets header)
    × (slice_index header 0 ≡ left_bracket)
    × (slice_index header (length header - 1) ≡ right_bracket)
    × (slice_index header (length header - brackets header) ≡ right_bracket)
    × IsSome (whole_key (skip_ws (between_brackets header)))

-- the pairs with the keys from n on, each in a new line after a header
abbrev pub pairs_put : ℕ → List Place → List Splice
pairs_put n [] = []
pairs_put n (p ∷ ps) = record {
  from = p.to;
  to = p.to;
  put = codes "\n" ++ (decimal n ++ codes "=true");
} ∷ pairs_put (suc n) ps

-- the same entries taken out of the tables at the paths
abbrev pub pairs_taken : ℕ → List Place → List ChangeAt
pairs_taken n [] = []
pairs_taken n (p ∷ ps) = (p.path, remove (decimal n)) ∷ pairs_taken (suc n) ps

-- each of the ranges is a key between brackets
abbrev pub AreBracketed : Text → List Place → Type 0
AreBracketed text [] = ⊤
AreBracketed text (p ∷ ps) =
    (IsRange text p.from p.to × IsHeader (range_of text p.from p.to)) × AreBracketed text ps

-- The ranges are the headers that open the tables at the paths, all at once: each alone is a key
-- between brackets, and with a pair in a new line after each of them the text is a document that
-- has these entries in these tables, and without them is the document of the text.
pub record AreHeaders (text : Text) (places : List Place) : Type 0 where
  pub few : length places ≤ most_numbers
  pub old : Data
  pub new : Data
  pub is_document : document text ≡ Some old
  pub bracketed : AreBracketed text places
  pub ascend : Ascend text 0 (pairs_put first_number places)
  pub is_new : document (spliced text 0 (pairs_put first_number places)) ≡ Some new
  pub changed : with_changes (pairs_taken first_number places) new ≡ Some old
