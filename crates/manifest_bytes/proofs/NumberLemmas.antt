-- Lemmas on whole numbers as bytes.
use Rattle.std.proofs.Common.{◌≡◌, ℕ, zero, suc, ◌+◌, ◌-◌, ◌*◌, ◌/◌, ◌%◌, ◌≤◌, ◌<◌, List, [], ◌∷◌, ◌++◌, Option, Some, ◌^◌, refl, arith}
use Rattle.std.proofs.lemmas.Bool.Decides.{nat_tests}
use Rattle.std.proofs.lemmas.Grind.{common_steps}
use Rattle.manifest_bytes.specs.Numbers.{groups, number_bytes, take_number}

-- room for more bytes changes none
groups_same : (f g n : ℕ) → n ≤ f → n ≤ g → groups f n ≡ groups g n
unfolding groups
groups_same zero zero n h k = refl
groups_same zero (suc g) n h k = grind (arith, nat_tests)
groups_same (suc f) zero n h k = grind (arith, nat_tests)
groups_same (suc f) (suc g) n h k = grind (arith, nat_tests, groups_same f g (n / 128))

-- the bytes of a number from 128 on, and of one below
pub number_more : (n : ℕ) → 128 ≤ n → number_bytes n ≡ (n % 128 + 128) ∷ number_bytes (n / 128)
unfolding number_bytes groups
number_more zero h = absurd (omega arith)
number_more (suc m) h = grind (arith, nat_tests, groups_same m (suc m / 128) (suc m / 128))

pub number_last : (n : ℕ) → n < 128 → number_bytes n ≡ n ∷ []
unfolding number_bytes groups
number_last zero h = refl
number_last (suc m) h = grind (arith, nat_tests)

pub ruleset number_steps = (common_steps, number_more, number_last)

-- a number times a unit, by the lowest bits and the others
pub parts : (unit n : ℕ) → unit * n ≡ unit * (n % 128) + unit * 128 * (n / 128)
parts unit n = rows (n / 128) (n % 128) (omega arith)
  where
    rows : (q r : ℕ) → n ≡ 128 * q + r → unit * n ≡ unit * r + unit * 128 * q
    rows q r e = rw e (omega arith)

-- A NUMBER is what its bytes hold
groups_back : (f n : ℕ) (rest : List ℕ) → n ≤ f → take_number (groups f n ++ rest) ≡ Some (n, rest)
unfolding groups
groups_back zero n rest h = grind (arith, nat_tests)
groups_back (suc f) n rest h = grind (arith, nat_tests, groups_back f (n / 128) rest)

pub number_back : (n : ℕ) (rest : List ℕ) → take_number (number_bytes n ++ rest) ≡ Some (n, rest)
unfolding number_bytes
number_back n rest = groups_back n n rest (omega arith)

-- WHAT IS READ of what stands above a number, which counts in a unit
abbrev pub ReadsAbove : ℕ → ℕ → List ℕ → Option ℕ → List ℕ → Type 0
ReadsAbove number unit old result new =
    (n : ℕ) (rest : List ℕ) → number + unit * n < 2 ^ 64 → old ≡ number_bytes n ++ rest →
    (result ≡ Some (number + unit * n)) × (new ≡ rest)

-- what is taken of a number whose first byte is its last, or is not
pub taken_last : (byte : ℕ) (mid : List ℕ) → byte < 128 → take_number (byte ∷ mid) ≡ Some (byte, mid)
taken_last byte mid small = grind (arith, nat_tests)

pub taken_more : (byte n : ℕ) (mid rest : List ℕ) → 128 ≤ byte → take_number mid ≡ Some (n, rest) →
    take_number (byte ∷ mid) ≡ Some (byte - 128 + 128 * n, rest)
taken_more byte n mid rest large more = grind (arith, nat_tests)
