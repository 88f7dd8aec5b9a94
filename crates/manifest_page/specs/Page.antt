-- What is written into the page.
use Rattle.std.specs.Prelude.{ℕ, List, [], ◌∷◌, All, codes, flat_map, ◌≢◌, ◌==◌, if◌then◌else◌}

-- a byte as it stands in the page: `<`, with which each tag of HTML begins, by an escape of JSON
abbrev pub harmless_byte : ℕ → List ℕ
harmless_byte b = if b == 60 then codes "\\u003c" else (b ∷ [])

-- a text as it stands in the page
abbrev pub harmless : List ℕ → List ℕ
harmless bytes = flat_map harmless_byte bytes

-- a text that has no `<`
abbrev pub HasNoTag : List ℕ → Type 0
HasNoTag bytes = All (λ b. b ≢ 60) bytes
