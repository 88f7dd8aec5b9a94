-- Where the value, the key and the header stand that belong to a path, by the places of a text.
use Rattle.std.specs.Prelude.{◌≡◌, ℕ, ◌==◌, if◌then◌else◌, ◌+◌, ◌≤◌, ◌<◌, [], ◌++◌, ◌⊎◌, List, length, slice_get, Option, Some, None, IfSome}
use Rattle.manifest_places.specs.Paths.{Path, path_of}
use Rattle.manifest_places.specs.declared.keys.Span.{Span}
use Rattle.manifest_places.specs.declared.keys.KeyParts.{KeyParts}
use Rattle.manifest_places.specs.declared.places.Place.{Place}
use Rattle.manifest_places.specs.declared.finding.Round.{Round}
use Rattle.manifest_places.specs.declared.finding.Places.{Places}
use Rattle.manifest_places.specs.declared.located.Located.{Located}

-- the range of a place
abbrev pub range_at : Place → Span
range_at p = record { from = p.from; to = p.to }

-- the place and the key stand at one index of one round
pub record IsEntry (ps : Places) (p : Place) (k : KeyParts) : Type 0 where
  pub round : ℕ
  pub index : ℕ
  pub values : Round
  pub is_round : slice_get ps.rounds.items round ≡ Some values
  pub is_place : slice_get values.places.items index ≡ Some p
  pub is_key : slice_get values.keys.items index ≡ Some k

-- the path is this beginning and n more steps
abbrev pub GoesOn : Path → Path → ℕ → Type 0
GoesOn path front n = (more : Path) × (path ≡ front ++ more) × (length more ≡ n)

-- The key from its first part to the one with n parts after it; an item of an array has no part.
abbrev pub IsKeyBut : List Span → ℕ → Option Span → Type 0
IsKeyBut parts n None = (parts ≡ []) × (n ≡ 0)
IsKeyBut parts n (Some s) =
    (i : ℕ) × (first : Span) × (last : Span) × (i + (1 + n) ≡ length parts)
    × (slice_get parts 0 ≡ Some first) × (slice_get parts i ≡ Some last)
    × (s ≡ record { from = first.from; to = last.to })

-- The last header that begins before the offset, of a table that the path leads through, or none.
abbrev pub IsHeaderBefore : List Place → Path → ℕ → Option Span → Type 0
IsHeaderBefore headers path at None = IfSome (slice_get headers 0) (λ h. at ≤ h.from)
IsHeaderBefore headers path at (Some s) =
    (i : ℕ) × (h : Place) × (n : ℕ) × (slice_get headers i ≡ Some h) × (s ≡ range_at h)
    × GoesOn path (path_of h.path.items) n × (h.from < at)
    × IfSome (slice_get headers (i + 1)) (λ next. at ≤ next.from)

-- the value's range, where no step is left to it
abbrev pub value_after : ℕ → Place → Option Span
value_after n p = if n == 0 then Some (range_at p) else None

-- what stands at the path is a value, or a table that the key of a value goes through
pub record IsByValue (ps : Places) (path : Path) (l : Located) : Type 0 where
  pub place : Place
  pub key : KeyParts
  pub more : ℕ
  pub is_entry : IsEntry ps place key
  pub goes_on : GoesOn (path_of place.path.items) path more
  pub is_value : l.value ≡ value_after more place
  pub is_key : IsKeyBut key.parts.items more l.key
  pub is_header : IsHeaderBefore ps.headers.items path place.from l.header

-- what stands at the path is a table or an array of tables that a header opens or goes through
pub record IsByHeader (ps : Places) (path : Path) (l : Located) : Type 0 where
  pub index : ℕ
  pub header : Place
  pub more : ℕ
  pub is_header : slice_get ps.headers.items index ≡ Some header
  pub goes_on : GoesOn (path_of header.path.items) path more
  pub is_there : l.header ≡ Some (range_at header)
  pub no_value : l.value ≡ None
  pub no_key : l.key ≡ None

-- what stands at the path is the whole document
pub record IsWhole (path : Path) (l : Located) : Type 0 where
  pub is_empty : path ≡ []
  pub no_value : l.value ≡ None
  pub no_key : l.key ≡ None
  pub no_header : l.header ≡ None

-- what stands at the path, one of these three
abbrev pub StandsAt : Places → Path → Located → Type 0
StandsAt ps path l = IsByValue ps path l ⊎ IsByHeader ps path l ⊎ IsWhole path l

-- what stands at the beginning of the path that has this many steps
abbrev pub IsLocated : Places → Path → Located → Type 0
IsLocated ps path l =
    (front : Path) × (rest : Path) × (path ≡ front ++ rest) × (length front ≡ l.steps)
    × StandsAt ps front l
