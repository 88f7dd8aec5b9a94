-- A text with other texts in some of its ranges.
use Rattle.std.specs.Prelude.{◌≡◌, ℕ, ◌-◌, ◌≤◌, [], ◌∷◌, ◌++◌, List, length, take, drop, string_bytes, Option, MatchOption}
use Rattle.std.specs.Str.{IsCharBoundary}
use Rattle.manifest_places.specs.Paths.{Text}
use Rattle.manifest_places.specs.declared.splices.Splice.{Splice as CodeSplice}

-- a range of bytes, and the text that takes its place
pub record Splice : Type 0 where
  pub from : ℕ
  pub to : ℕ
  pub put : Text

abbrev pub splice_of : CodeSplice → Splice
splice_of s = record { from = s.from; to = s.to; put = string_bytes s.put }

-- the bytes of the text from a to b
abbrev pub range_of : Text → ℕ → ℕ → Text
range_of text a b = take (b - a) (drop a text)

-- a to b is a range of the text, and cuts no character
abbrev pub IsRange : Text → ℕ → ℕ → Type 0
IsRange text a b = (a ≤ b) × IsCharBoundary text a × IsCharBoundary text b

-- what is left of the text from n on, with these texts in the places of these ranges
abbrev pub spliced : Text → ℕ → List Splice → Text
spliced text n [] = range_of text n (length text)
spliced text n (s ∷ more) = range_of text n s.from ++ (s.put ++ spliced text s.to more)

-- the ranges ascend from n on, do not overlap, and each is a range of the text
abbrev pub Ascend : Text → ℕ → List Splice → Type 0
Ascend text n [] = IsRange text n (length text)
Ascend text n (s ∷ more) = IsRange text n s.from × IsRange text s.from s.to × Ascend text s.to more

-- the new text is the old one with these texts in these ranges
abbrev pub IsSpliced : Text → List Splice → Text → Type 0
IsSpliced text splices new = Ascend text 0 splices × (new ≡ spliced text 0 splices)

-- that text, where the ranges ascend
abbrev pub Splices : Text → List Splice → Option Text → Type 0
Splices text splices made = MatchOption made (¬ Ascend text 0 splices) (IsSpliced text splices)
