-- Keys in a text: the key that stands before a value, part by part.
use Rattle.std.specs.Prelude.{◌≡◌, ℕ, ◌-◌, ◌≤◌, ◌==◌, false, if◌then◌else◌, [], ◌∷◌, ◌++◌, List, length, take, drop, map, slice_index, Option, Some, None, option_map, option_and_then, ⊤}
use Rattle.toml.specs.Parse.{key_equals}
use Rattle.toml_parser.specs.Lexical.{is_ws, dot}
use Rattle.toml_parser.specs.Strings.{Key, key as read_key}
use Rattle.manifest_places.specs.Paths.{Text, Path, key}
use Rattle.manifest_places.specs.Splices.{range_of, IsRange}
use Rattle.manifest_places.specs.Places.{Place}
use Rattle.manifest_places.specs.declared.keys.Span.{Span as CodeSpan}

-- the key that a text is, alone but for white space after it
abbrev pub whole_key : Text → Option Key
whole_key text = option_and_then (λ k. if length k.1 == 0 then Some k.0 else None) (read_key text)

-- the key that a text is, alone but for `=` and white space after it
abbrev pub key_before : Text → Option Key
key_before text =
    option_and_then (λ k. if length k.1 == 0 then Some k.0 else None) (key_equals text)

-- the steps that the parts of a key are
abbrev pub key_steps : Key → Path
key_steps k = map key k.0 ++ key k.1 ∷ []

-- a range of bytes
pub record Span : Type 0 where
  pub from : ℕ
  pub to : ℕ

abbrev pub span_of : CodeSpan → Span
span_of s = record { from = s.from; to = s.to }

-- The range is the first part of a key that goes on up to v, where its value begins: from its start
-- on the text reads as a key of these steps, `=` and white space; alone it reads as a key of the
-- first step; and it ends in no white space.
abbrev pub IsPart : Text → ℕ → Span → Path → Type 0
IsPart text v s steps =
    IsRange text s.from v
    × (option_map key_steps (key_before (range_of text s.from v)) ≡ Some steps)
    × IsRange text s.from s.to
    × (option_map key_steps (whole_key (range_of text s.from s.to)) ≡ Some (take 1 steps))
    × (is_ws (slice_index text (s.to - 1)) ≡ false)

-- the ranges are the parts of a key of these steps, one by one
abbrev pub AreParts : Text → ℕ → List Span → Path → Type 0
AreParts text v [] [] = ⊤
AreParts text v (s ∷ ss) (k ∷ ks) = IsPart text v s (k ∷ ks) × AreParts text v ss ks
AreParts text v _ _ = ⊥

-- the last byte of a text that is no space and no tab, or b where there is none
abbrev pub last_solid : ℕ → Text → ℕ
last_solid b [] = b
last_solid b (c ∷ cs) = last_solid (if is_ws c then b else c) cs

-- no dot stands before the first of the ranges, so that it is the first part of its key
abbrev pub BeginsKey : Text → List Span → Type 0
BeginsKey text [] = ⊤
BeginsKey text (s ∷ ss) = (s.from ≤ length text) × (last_solid 0 (take s.from text) ≡ dot → ⊥)

-- the last steps of a path, as many as there are ranges
abbrev pub last_steps : List Span → Path → Path
last_steps spans p = drop (length p - length spans) p

-- The ranges are the parts of the key before the value at this place, each of them: its first part
-- is the first one, and its steps are the last ones of the path. An item of an array has no key, and
-- no parts.
abbrev pub IsKey : Text → Place → List Span → Type 0
IsKey text p spans =
    (length spans ≤ length p.path) × BeginsKey text spans
    × AreParts text p.from spans (last_steps spans p.path)

-- the ranges of each place are the parts of its key
abbrev pub AreKeys : Text → List Place → List (List Span) → Type 0
AreKeys text [] [] = ⊤
AreKeys text (p ∷ ps) (k ∷ ks) = IsKey text p k × AreKeys text ps ks
AreKeys text _ _ = ⊥
