-- Lemmas on the value that a tag stands for, and on what is read of it.
use Rattle.std.proofs.Common.{◌≡◌, ℕ, ◌<◌, ◌≤◌, ◌^◌, List, [], ◌∷◌, ◌++◌, drop, IsTrue, Result, IsErrAnd, arith, to_bits, from_bits, refl, ap}
use Rattle.std.proofs.lemmas.Float.{T_from_true}
use Rattle.std.specs.Float.{Float, binary64}
use lib.Ieee.{fits}
use lib.Ieee.Bits.{of_bits-to_bits, to_bits-lt}
use Rattle.toml_datetime.specs.declared.datetime.Datetime.{Datetime}
use Rattle.toml.specs.Data.{Data, string, datetime, array, table, Items, Members}
use Rattle.manifest_bytes.specs.Numbers.{number_bytes}
use Rattle.manifest_bytes.specs.Encoded.{text_bytes, datetime_bytes, item_count, member_count, encoded, items_bytes, members_bytes}
use Rattle.manifest_bytes.specs.Read.{RefusesRead, ReadsTo}
use Rattle.manifest_bytes.specs.declared.error.Unread.{Unread}

-- A VALUE has a byte
pub not_empty : (d : Data) (rest : List ℕ) → [] ≡ encoded d ++ rest → ⊥
not_empty (string t) rest h = cc
not_empty _ rest h = grind arith

-- THE VALUE OF A TAG
pub tag_string : (d : Data) (left rest : List ℕ) → 1 ∷ left ≡ encoded d ++ rest →
    (t : List ℕ) × (d ≡ string t) × (left ≡ text_bytes t ++ rest)
tag_string (string t) left rest h = (t, refl, ap (drop 1) h)
tag_string _ left rest h = absurd (grind arith)

pub tag_datetime : (d : Data) (left rest : List ℕ) → 6 ∷ left ≡ encoded d ++ rest →
    (t : Datetime) × (d ≡ datetime t) × (left ≡ datetime_bytes t ++ rest)
tag_datetime (datetime t) left rest h = (t, refl, ap (drop 1) h)
tag_datetime _ left rest h = absurd (grind arith)

pub tag_array : (d : Data) (left rest : List ℕ) → 7 ∷ left ≡ encoded d ++ rest →
    (ds : Items) × (d ≡ array ds) × (left ≡ (number_bytes (item_count ds) ++ items_bytes ds) ++ rest)
tag_array (array ds) left rest h = (ds, refl, ap (drop 1) h)
tag_array _ left rest h = absurd (grind arith)

pub tag_table : (d : Data) (left rest : List ℕ) → 8 ∷ left ≡ encoded d ++ rest →
    (ms : Members) × (d ≡ table ms) × (left ≡ (number_bytes (member_count ms) ++ members_bytes ms) ++ rest)
tag_table (table ms) left rest h = (ms, refl, ap (drop 1) h)
tag_table _ left rest h = absurd (grind arith)

-- the bits of a float are a `u64`, and read back as it
pub bits_fit : (x : Float) → IsTrue (fits binary64 x) → to_bits binary64 x < 2 ^ 64
bits_fit x h = to_bits-lt binary64 x (T_from_true _ h)

pub bits_back : (x : Float) → IsTrue (fits binary64 x) → from_bits binary64 (to_bits binary64 x) ≡ x
bits_back x h = of_bits-to_bits binary64 x (T_from_true _ h)

-- WHAT REFUSES a part refuses the whole
pub passed_on : {B : Type 0} (Is : B → Type 0) (part all deepest : ℕ) (error : Unread) (result : Result B Unread) →
    IsErrAnd result (λ same. same ≡ error) → part ≤ all → RefusesRead part deepest error →
    ReadsTo all deepest Is result
passed_on Is part all deepest error result is h refused = grind arith
