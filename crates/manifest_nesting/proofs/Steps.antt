-- A text that leads no deeper than 128, a piece at a time: at a depth d, after i dots, in brackets that stand in o.
use Rattle.std.proofs.Common.{◌≡◌, ℕ, zero, suc, ◌+◌, ◌<◌, Bool, true, false, if◌then◌else◌, ◌&&◌, ◌==◌, nat_lt, List, [], ◌∷◌, ◌++◌, length, Some, refl, eqb-true, lt-ltb, ltb-true, le-leb, add-zero, length-append, take_at, ◌-◌, ap, inl, inr, arith}
use Rattle.std.proofs.lemmas.Bool.{cases_Bool, and_parts, false≢true}
use Rattle.std.proofs.lemmas.Bool.Decides.{nat_tests}
use Rattle.std.proofs.lemmas.Option.{unwrap_or-slice_get}
use Rattle.std.proofs.Math.Seq.{get_or-append_seam}
use Rattle.std.specs.List.{list_all}
use Rattle.toml_parser.specs.Lexical.{is_bare, is_word}
use Rattle.toml_parser.specs.Strings.{starts_string, simple_key}
use Rattle.toml_writer.specs.Text.{key_text, string_text}
use Rattle.toml_writer.proofs.Strings.{NotDelim, EndsKey, simple_key-key_text, quoted-string_text, starts_string-string_text}
use Rattle.manifest_nesting.specs.declared.nesting.Place.{Place}
use Rattle.manifest_nesting.specs.declared.nesting.Place.TheVariants.{LineStart, Header, Line}
use Rattle.manifest_nesting.specs.declared.nesting.Nesting.{Nesting}
use Rattle.manifest_nesting.specs.Skipped.{after_string}
use Rattle.manifest_nesting.specs.Nesting.{count_up, begun_at, closed, turn, scan}
use Rattle.manifest_nesting.proofs.StringSkips.{strings_are_skipped, line_skipped}

-- the keys of a printed text have no dots, so none of them leads to tables of its own
abbrev pub at : Bool → Place → ℕ → ℕ → List ℕ → Nesting
at arrays place depth dots outer = record {
  place = place;
  depth = depth;
  dots = dots;
  above = 0;
  outer = record { items = outer };
  arrays = arrays;
}

-- the rest of the text leads no deeper, in any number of turns
pub record Fine (n : Nesting) (text : List ℕ) : Type 0 where
  pub turns : (k : ℕ) → scan k n text ≡ false

-- nothing leads no deeper
scan_empty : (k : ℕ) (n : Nesting) → scan k n [] ≡ false
unfolding scan
scan_empty zero n = refl
scan_empty (suc k) n = refl

pub fine_end : (n : Nesting) → Fine n []
fine_end n = record { turns = λ k. scan_empty k n }

-- a turn leads no deeper, nor does what follows it
scan_turn : (k : ℕ) (n m : Nesting) (c : ℕ) (cs rest : List ℕ) → turn n (c ∷ cs) ≡ Some (m, rest) → Fine m rest
    → scan k n (c ∷ cs) ≡ false
unfolding scan
scan_turn zero n m c cs rest e h = refl
scan_turn (suc k) n m c cs rest e h = rw e (h.turns k)

pub fine_turn : {n m : Nesting} {c : ℕ} {cs rest : List ℕ} → turn n (c ∷ cs) ≡ Some (m, rest) → Fine m rest
    → Fine n (c ∷ cs)
fine_turn {n = n} {m = m} {c = c} {cs = cs} {rest = rest} e h = record { turns = λ k. scan_turn k n m c cs rest e h }

-- a byte that only begins a key or a value
begin_turn : {a : Bool} (p : Place) (d i c : ℕ) (o cs : List ℕ) → is_word c ≡ true → (c == 46) ≡ false
    → turn (at a p d i o) (c ∷ cs) ≡ Some (at a (begun_at p) d i o, cs)
begin_turn LineStart d i c o cs word other = grind (arith, nat_tests)
begin_turn Header d i c o cs word other = grind (arith, nat_tests)
begin_turn Line d i c o cs word other = grind (arith, nat_tests)

-- WORDS: their dots are counted, and lead no deeper
pub word_fine : {a : Bool} (w rest : List ℕ) (d i : ℕ) (o : List ℕ) → list_all is_word w ≡ true
    → ((j : ℕ) → Fine (at a Line d j o) rest) → Fine (at a Line d i o) (w ++ rest)
word_fine [] rest d i o all h = h i
word_fine (c ∷ cs) rest d i o all h =
    let (here, more) = and_parts (is_word c) (list_all is_word cs) all in
    elim (cases_Bool (c == 46)) [
      | inl point ↦ rw (eqb-true c 46 point) (fine_turn refl (word_fine cs rest d (count_up i) o more h))
      | inr other ↦ fine_turn (begin_turn Line d i c o (cs ++ rest) here other) (word_fine cs rest d i o more h)
    ]

-- KEYS AND STRINGS: nothing of them is counted
string_fine : {a : Bool} (p : Place) (d i : ℕ) (o text rest : List ℕ) → starts_string text ≡ true
    → after_string text ≡ rest
    → Fine (at a (begun_at p) d i o) rest → Fine (at a p d i o) text
string_fine p d i o [] rest starts e h = absurd (false≢true starts)
string_fine p d i o (c ∷ cs) rest starts e h = fine_turn (rw (starts, e) refl) h

-- a key begins once
begun_twice : (p : Place) → begun_at (begun_at p) ≡ begun_at p
begun_twice p = grind (arith, nat_tests)

-- a key in no quotes
bare_fine : {a : Bool} (p : Place) (d i : ℕ) (o k rest : List ℕ) → 0 < length k → list_all is_bare k ≡ true
    → Fine (at a (begun_at p) d i o) rest → Fine (at a p d i o) (k ++ rest)
bare_fine p d i o [] rest some all h = absurd (omega arith)
bare_fine p d i o (c ∷ []) rest some all h =
    fine_turn (begin_turn p d i c o rest (grind (arith, nat_tests)) (grind (arith, nat_tests))) h
bare_fine p d i o (c ∷ e ∷ cs) rest some all h =
    fine_turn (begin_turn p d i c o (e ∷ cs ++ rest) (grind (arith, nat_tests)) (grind (arith, nat_tests)))
    (bare_fine (begun_at p) d i o (e ∷ cs) rest (omega arith) (grind (arith, nat_tests)) (rw begun_twice h))

-- a key in quotes is skipped
quoted_key : (text k rest : List ℕ) → starts_string text ≡ true → simple_key text ≡ Some (k, rest) → NotDelim rest
    → after_string text ≡ rest
unfolding simple_key
quoted_key text k rest starts e stop = line_skipped text k rest starts (rw starts at e) (grind (arith, nat_tests))

-- a key that cannot be bare is written in quotes
starts_key : (k rest : List ℕ) → (nat_lt 0 (length k) && list_all is_bare k) ≡ false
    → starts_string (key_text k ++ rest) ≡ true
unfolding key_text
starts_key k rest other = grind (arith, nat_tests)

-- a key as it is written
pub key_fine : {a : Bool} (p : Place) (d i : ℕ) (o k rest : List ℕ) → EndsKey rest → Fine (at a (begun_at p) d i o) rest
    → Fine (at a p d i o) (key_text k ++ rest)
unfolding key_text
key_fine p d i o k rest stop h =
    elim (cases_Bool (nat_lt 0 (length k) && list_all is_bare k)) [
      | inl bare ↦
          let (some, all) = and_parts (nat_lt 0 (length k)) (list_all is_bare k) bare in
          rw bare (bare_fine p d i o k rest (ltb-true 0 _ some) all h)
      | inr other ↦
          let starts = starts_key k rest other in
          string_fine p d i o _ rest starts (quoted_key _ k rest starts (simple_key-key_text k rest stop) stop.0) h
    ]

-- a string as a value
pub value_string_fine : {a : Bool} (d i : ℕ) (o s rest : List ℕ) → NotDelim rest → Fine (at a Line d i o) rest
    → Fine (at a Line d i o) (string_text s ++ rest)
value_string_fine d i o s rest stop h =
    let starts = starts_string-string_text s rest in
    string_fine Line d i o _ rest starts (strings_are_skipped _ s rest starts (quoted-string_text s rest stop)) h

-- between a key and its value
pub equals_fine : {a : Bool} (d : ℕ) (o rest : List ℕ) → Fine (at a Line d 0 o) rest
    → Fine (at a Line d 0 o) (32 ∷ 61 ∷ 32 ∷ rest)
equals_fine d o rest h = fine_turn {rest = 61 ∷ 32 ∷ rest} refl (fine_turn {rest = 32 ∷ rest} refl (fine_turn refl h))

-- BRACKETS of an array and of a table: one opens
pub open_fine : {a : Bool} (is_array : Bool) (d i : ℕ) (o rest : List ℕ) → d < 128 → length o < 128
    → Fine (at a Line (d + 1) 0 (o ++ d ∷ [])) rest → Fine (at a Line d i o) ((if is_array then 91 else 123) ∷ rest)
open_fine true d i o rest low few h =
    fine_turn (rw (add-zero, le-leb (d + 1) 128 (omega arith), lt-ltb (length o) 128 few)) h
open_fine false d i o rest low few h =
    fine_turn (rw (add-zero, le-leb (d + 1) 128 (omega arith), lt-ltb (length o) 128 few)) h

-- what the last open bracket was in is found again
closed_last : {a : Bool} (d e i : ℕ) (o : List ℕ) → closed (at a Line e i (o ++ d ∷ [])) ≡ at a Line d 0 o
closed_last d e i o =
    let last : length (o ++ d ∷ []) - 1 ≡ length o = omega (arith, length-append o (d ∷ [])) in
    rw (last, unwrap_or-slice_get, take_at o (d ∷ []) _ refl, get_or-append_seam o d [] e)

-- a bracket closes
pub close_fine : {a : Bool} (is_array : Bool) (d e i : ℕ) (o rest : List ℕ) → Fine (at a Line d 0 o) rest
    → Fine (at a Line e i (o ++ d ∷ [])) ((if is_array then 93 else 125) ∷ rest)
close_fine true d e i o rest h = fine_turn (ap (λ n. Some (n, rest)) (closed_last d e i o)) h
close_fine false d e i o rest h = fine_turn (ap (λ n. Some (n, rest)) (closed_last d e i o)) h
