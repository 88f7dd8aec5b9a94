-- The line and the columns of an offset.
use Rattle.std.specs.Prelude.{◌≡◌, ℕ, ◌+◌, ◌*◌, ◌==◌, ◌≤◌, [], ◌∷◌, List, length, take, map, if◌then◌else◌, nat_lt, Option, MatchOption}
use Rattle.manifest_places.specs.Paths.{Text}
use Rattle.manifest_places.specs.declared.lines.Position.{Position as CodePosition}

-- how many line feeds there are
abbrev pub feeds : Text → ℕ
feeds [] = 0
feeds (b ∷ bs) = (if b == 10 then 1 else 0) + feeds bs

-- what stands after the last line feed
abbrev pub last_line : Text → Text
last_line [] = []
last_line (b ∷ bs) = if feeds bs == 0 then (if b == 10 then bs else b ∷ bs) else last_line bs

-- how many characters of UTF-8 a byte begins: none where it goes on with one
abbrev pub begins : ℕ → ℕ
begins b = if nat_lt b 128 then 1 else (if nat_lt b 192 then 0 else 1)

-- and how many units of UTF-16 they have: two for a character of four bytes
abbrev pub begins_units : ℕ → ℕ
begins_units b =
    if nat_lt b 128 then 1 else (if nat_lt b 192 then 0 else (if nat_lt b 240 then 1 else 2))

-- how many characters a text has
abbrev pub characters : Text → ℕ
characters [] = 0
characters (b ∷ bs) = begins b + characters bs

-- how many units of UTF-16 it has
abbrev pub units : Text → ℕ
units [] = 0
units (b ∷ bs) = begins_units b + units bs

-- a line, counted from 1 on, and how many bytes, characters and units of UTF-16 stand before in it
pub record Position : Type 0 where
  pub line : ℕ
  pub bytes : ℕ
  pub characters : ℕ
  pub units : ℕ

-- where a text ends
abbrev pub end_of : Text → Position
end_of text = record {
  line = feeds text + 1;
  bytes = length (last_line text);
  characters = characters (last_line text);
  units = units (last_line text);
}

-- where the offset n is
abbrev pub offset_position : Text → ℕ → Position
offset_position text n = end_of (take n text)

abbrev pub position_of : CodePosition → Position
position_of p = record {
  line = p.line;
  bytes = p.bytes;
  characters = p.characters;
  units = p.units;
}

-- where the offset n is, if the text is so long
abbrev pub IsPosition : Text → ℕ → Option CodePosition → Type 0
IsPosition text n found =
    MatchOption found (length text + 1 ≤ n) (λ p. position_of p ≡ offset_position text n)

-- the offsets ascend from n on, and each is in the text or at its end
abbrev pub OffsetsAscend : Text → ℕ → List ℕ → Type 0
OffsetsAscend text n [] = n ≤ length text
OffsetsAscend text n (m ∷ more) = (n ≤ m) × OffsetsAscend text m more

-- where each of the offsets is, if they ascend
abbrev pub ArePositions : Text → List ℕ → Option (List CodePosition) → Type 0
ArePositions text ns found =
    MatchOption found (¬ OffsetsAscend text 0 ns)
    (λ ps. OffsetsAscend text 0 ns × (map position_of ps ≡ map (offset_position text) ns))

-- a position and one more byte
abbrev pub end_after : Position → ℕ → Position
end_after p b =
    if b == 10 then record { line = p.line + 1; bytes = 0; characters = 0; units = 0 }
    else record {
      line = p.line;
      bytes = p.bytes + 1;
      characters = p.characters + begins b;
      units = p.units + begins_units b;
    }

-- no number is above what this many bytes can give
abbrev pub IsSmall : CodePosition → ℕ → Type 0
IsSmall p n = (p.line ≤ n + 1) × (p.bytes ≤ n) × (p.characters ≤ n) × (p.units ≤ 2 * n)
