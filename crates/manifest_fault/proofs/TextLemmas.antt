-- Keys as texts.
use Rattle.manifest_schema.specs.Prelude.{nat_tests, list_all, is_bare, is_bare_key, quoted_byte}
use Rattle.std.proofs.Common.{◌≡◌, ℕ, suc, ◌<◌, ◌≤◌, ◌≢◌, ◌==◌, false, List, [], ◌∷◌, length, get_or, flat_map, append-nil, refl, sym, inl, inr, arith}
use Rattle.std.proofs.lemmas.Bool.{cases_lt}
use Rattle.std.proofs.lemmas.Str.{encode_ascii, inside_one}
use Rattle.std.specs.Char.{encode_utf8}

-- a key with a byte is bare where each of its bytes is
pub nonempty_is_bare_key : (k : List ℕ) → (length k == 0) ≡ false → is_bare_key k ≡ list_all is_bare k
nonempty_is_bare_key [] h = cc
nonempty_is_bare_key (b ∷ bs) h = refl

-- a byte that is no quote, no backslash and no control character stands for itself
plain_byte : (b : ℕ) → b ≢ 34 → b ≢ 92 → 32 ≤ b → b ≢ 127 → quoted_byte b ≡ b ∷ []
plain_byte b quote backslash low delete = grind (arith, nat_tests)

-- so do bytes above ASCII
high_bytes : (bs : List ℕ) → ((k : ℕ) → k < length bs → 128 ≤ get_or bs k 0) → flat_map quoted_byte bs ≡ bs
high_bytes [] h = refl
high_bytes (b ∷ bs) h =
    let high : 128 ≤ b = h 0 (omega arith) in
    rw (
      plain_byte b (omega arith) (omega arith) (omega arith) (omega arith),
      high_bytes bs
          (λ k within. h (suc k) (omega arith)),
    )

-- the bytes of a character above ASCII are above ASCII
encode_high : (c : ℕ) → 128 ≤ c → (k : ℕ) → k < length (encode_utf8 c) → 128 ≤ get_or (encode_utf8 c) k 0
encode_high c high k within = elim (cases_lt (get_or (encode_utf8 c) k 0) 128) [
  | inl low ↦ absurd (omega (arith, inside_one c [] (encode_utf8 c) k (sym (append-nil _)) within low))
  | inr h ↦ h
]

-- a character that is no quote, no backslash and no control character stands for itself
pub plain_char : (c : ℕ) → c ≢ 34 → c ≢ 92 → 32 ≤ c → c ≢ 127 → flat_map quoted_byte (encode_utf8 c) ≡ encode_utf8 c
plain_char c quote backslash low delete = elim (cases_lt c 128) [
  | inl ascii ↦ rw (encode_ascii c ascii, plain_byte c quote backslash low delete)
  | inr high ↦ high_bytes (encode_utf8 c) (encode_high c high)
]
