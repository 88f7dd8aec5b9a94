-- Whole numbers as bytes.
use Rattle.std.specs.Prelude.{ℕ, zero, suc, ◌+◌, ◌-◌, ◌*◌, ◌/◌, ◌%◌, nat_lt, if◌then◌else◌, List, [], ◌∷◌, Option, Some, None}

-- at most a given number of bytes and one more
unfoldable pub groups : ℕ → ℕ → List ℕ
groups zero n = n ∷ []
groups (suc more) n = if nat_lt n 128 then n ∷ [] else (n % 128 + 128) ∷ groups more (n / 128)

-- A NUMBER in groups of seven bits, the lowest first, with 128 added to each but the last
unfoldable pub number_bytes : ℕ → List ℕ
number_bytes n = groups n n

-- WHAT IS READ from the beginning of some bytes, and the bytes after it
abbrev pub Taken : Type 0 → Type 0
Taken A = Option (A × List ℕ)

abbrev pub with_low : ℕ → Taken ℕ → Taken ℕ
with_low low None = None
with_low low (Some r) = Some (low + 128 * r.0, r.1)

-- a number
abbrev pub take_number : List ℕ → Taken ℕ
take_number [] = None
take_number (b ∷ bs) = if nat_lt b 128 then Some (b, bs) else with_low (b - 128) (take_number bs)
