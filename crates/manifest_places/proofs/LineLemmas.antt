-- One more byte at the end of a text: where it ends.
use Rattle.std.proofs.Common.{◌≡◌, ℕ, ◌+◌, ◌==◌, ◌<◌, ◌≤◌, true, false, cond, List, [], ◌∷◌, ◌++◌, length, length-append, take, get_or, ap, ◌∙◌, arith, inl, inr}
use Rattle.std.proofs.lemmas.Bool.{cases_Bool}
use Rattle.std.proofs.lemmas.Bool.Decides.{nat_tests}
use Rattle.std.proofs.lemmas.List.{take_more}
use Rattle.manifest_places.specs.Paths.{Text}
use Rattle.manifest_places.specs.Lines.{feeds, last_line, characters, units, begins, begins_units, end_of, end_after, offset_position, OffsetsAscend}

feeds_last : (xs : Text) (b : ℕ) → feeds (xs ++ b ∷ []) ≡ feeds xs + cond (b == 10) 1 0
feeds_last [] b = omega arith
feeds_last (x ∷ xs) b = rw (feeds_last xs b) (omega arith)

characters_last : (xs : Text) (b : ℕ) → characters (xs ++ b ∷ []) ≡ characters xs + begins b
characters_last [] b = omega arith
characters_last (x ∷ xs) b = rw (characters_last xs b) (omega arith)

units_last : (xs : Text) (b : ℕ) → units (xs ++ b ∷ []) ≡ units xs + begins_units b
units_last [] b = omega arith
units_last (x ∷ xs) b = rw (units_last xs b) (omega arith)

length_last : (xs : Text) (b : ℕ) → length (xs ++ b ∷ []) ≡ length xs + 1
length_last xs b = length-append xs (b ∷ [])

-- after a line feed nothing stands yet, and after another byte one more
line_fed : (xs : Text) (b : ℕ) → (b == 10) ≡ true → last_line (xs ++ b ∷ []) ≡ []
line_fed [] b fed = rw fed
line_fed (x ∷ xs) b fed =
    let some : (feeds (xs ++ b ∷ []) == 0) ≡ false = rw (feeds_last xs b, fed) (grind (arith, nat_tests)) in
    rw (some, line_fed xs b fed)

line_plain : (xs : Text) (b : ℕ) → (b == 10) ≡ false → last_line (xs ++ b ∷ []) ≡ last_line xs ++ b ∷ []
line_plain [] b plain = rw plain
line_plain (x ∷ xs) b plain =
    let same : feeds (xs ++ b ∷ []) ≡ feeds xs = rw (feeds_last xs b, plain) (omega arith) in
    elim (cases_Bool (feeds xs == 0)) [
      | inl none ↦ elim (cases_Bool (x == 10)) [
        | inl fed ↦ rw (same, none, fed)
        | inr other ↦ rw (same, none, other)
      ]
      | inr some ↦ rw (same, some, line_plain xs b plain)
    ]

pub end_last : (xs : Text) (b : ℕ) → end_of (xs ++ b ∷ []) ≡ end_after (end_of xs) b
end_last xs b =
    elim (cases_Bool (b == 10)) [
      | inl fed ↦ rw (feeds_last xs b, line_fed xs b fed, fed)
      | inr plain ↦
          let still : feeds (xs ++ b ∷ []) ≡ feeds xs = rw (feeds_last xs b, plain) (omega arith) in
          rw (
            still,
            line_plain xs b plain,
            length_last (last_line xs) b,
            characters_last
                (last_line xs) b,
            units_last (last_line xs) b,
            plain,
          )
    ]

pub position_more : (text : Text) (i d : ℕ) → i < length text
    → offset_position text (i + 1) ≡ end_after (offset_position text i) (get_or text i d)
position_more text i d lt = ap end_of (take_more text i d lt) ∙ end_last (take i text) (get_or text i d)

-- offsets that ascend are within the text
ascend_within : (text : Text) (n : ℕ) (ms : List ℕ) → OffsetsAscend text n ms → n ≤ length text
ascend_within text n [] h = h
ascend_within text n (m ∷ ms) h = let le : m ≤ length text = ascend_within text m ms h.1 in omega (arith, h.0)

pub none_past_end : (text : Text) (n m : ℕ) (ms : List ℕ) → length text < m → OffsetsAscend text n (m ∷ ms) → ⊥
none_past_end text n m ms past h = let le : m ≤ length text = ascend_within text m ms h.1 in absurd (omega arith)
