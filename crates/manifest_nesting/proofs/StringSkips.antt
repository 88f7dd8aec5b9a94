-- A string that is read is skipped.
use Rattle.std.proofs.Common.{◌≡◌, ℕ, zero, suc, ◌<◌, Bool, true, false, not, ◌&&◌, ◌||◌, ◌==◌, List, [], ◌∷◌, length, take, drop, Option, Some, option_map, if◌then◌else◌, is_some, refl, inl, inr, arith}
use Rattle.std.proofs.lemmas.Bool.{cases_Bool, false≢true}
use Rattle.std.proofs.lemmas.Bool.Decides.{nat_tests}
use Rattle.std.proofs.lemmas.Option.{none-some, option_and_then_some}
use Rattle.std.specs.Char.{is_digit}
use Rattle.std.specs.List.{prefix_len, list_all}
use Rattle.toml_parser.specs.Lexical.{first, starts_newline, skip_ws, skip_from, skip_lines}
use Rattle.toml_parser.specs.Strings.{starts_string, is_plain, hex_escape, escape_char, escape, special, body, trim_newline, one_line, quoted}
use Rattle.toml_parser.proofs.LexicalLemmas.{skip_ws_none}
use Rattle.manifest_nesting.specs.Skipped.{has_last_three, after_content, after_string}
use Rattle.manifest_nesting.specs.Laws.{StringsAreSkipped}

-- a byte of a string that neither ends it nor escapes the next one
abbrev is_content : ℕ → ℕ → Bool
is_content q c = not (c == q) && not (c == 92 && q == 34)

-- such a byte is passed over
passed : (several : Bool) (q : ℕ) (text : List ℕ) → is_content q (first text) ≡ true
    → after_content several q false text ≡ after_content several q false (drop 1 text)
unfolding after_content
passed several q [] h = refl
passed true q (c ∷ cs) h = grind (arith, nat_tests)
passed false q (c ∷ cs) h = grind (arith, nat_tests)

-- so are hex digits
digits_passed : (several : Bool) (n : ℕ) (text : List ℕ) → list_all (λ c. is_digit c 16) (take n text) ≡ true
    → after_content several 34 false text ≡ after_content several 34 false (drop n text)
digits_passed several zero text all = refl
digits_passed several (suc n) [] all = refl
digits_passed several (suc n) (c ∷ cs) all =
    grind (arith, nat_tests, passed several 34 (c ∷ cs), digits_passed several n cs)

-- so are blanks and newlines
blanks_passed : (several : Bool) (text : List ℕ)
    → after_content several 34 false text ≡ after_content several 34 false (skip_lines text)
unfolding skip_from
blanks_passed several [] = refl
blanks_passed several (c ∷ cs) = grind (arith, nat_tests, passed several 34 (c ∷ cs), blanks_passed several cs)

-- so are they after a backslash
lines_passed : (several : Bool) (text : List ℕ) → starts_newline (skip_ws text) ≡ true
    → after_content several 34 true text ≡ after_content several 34 false (skip_lines text)
unfolding after_content
lines_passed several [] h = blanks_passed several []
lines_passed several (c ∷ cs) h =
    grind (arith, nat_tests, skip_ws_none (c ∷ cs), passed several 34 (c ∷ cs), blanks_passed several (c ∷ cs))

-- what an escape takes is passed over: digits, or a letter
hex_passed : (several is_hex : Bool) (n : ℕ) (text : List ℕ) (letter : Option ℕ) (p : ℕ × List ℕ)
    → (if is_hex then hex_escape n text else option_map (λ c. (c, text)) letter) ≡ Some p
    → after_content several 34 false text ≡ after_content several 34 false p.1
unfolding hex_escape
hex_passed several is_hex n text letter p e = grind (arith, nat_tests, digits_passed several n text)

-- so is what stands for a character after a backslash
char_passed : (several : Bool) (text : List ℕ) (p : ℕ × List ℕ) → escape_char text ≡ Some p
    → after_content several 34 true text ≡ after_content several 34 false p.1
unfolding escape_char after_content
char_passed several [] p e = absurd (none-some p e)
char_passed several (c ∷ cs) p e = hex_passed several _ _ cs _ p e

-- so is all of an escape
escape_passed : (multi : Bool) (text : List ℕ) (p : List ℕ × List ℕ) → escape multi text ≡ Some p
    → after_content multi 34 true text ≡ after_content multi 34 false p.1
unfolding escape
escape_passed multi text p e = grind (arith, nat_tests, lines_passed multi text, char_passed multi text)

-- three quotes in a row, and no fourth
last_three : (q : ℕ) (text : List ℕ) → 0 < q → has_last_three q text ≡ (prefix_len (λ c. c == q) text == 3)
last_three q [] h = grind (arith, nat_tests)
last_three q (a ∷ []) h = grind (arith, nat_tests)
last_three q (a ∷ b ∷ []) h = grind (arith, nat_tests)
last_three q (a ∷ b ∷ c ∷ []) h = grind (arith, nat_tests)
last_three q (a ∷ b ∷ c ∷ d ∷ text) h = grind (arith, nat_tests)

-- the delimiters of strings
abbrev is_quote : ℕ → Bool
is_quote q = q == 34 || q == 39

-- what is taken of a string is passed over, and the string ends where it was read to
abbrev Passed : ℕ → Bool → List ℕ → Option (List ℕ) × List ℕ → Type 0
Passed q multi text p =
    after_content multi q false text ≡ (if is_some p.0 then after_content multi q false p.1 else p.1)

-- that is so at a byte that does not stand for itself
special_passed : (q : ℕ) (multi : Bool) (text : List ℕ) (p : Option (List ℕ) × List ℕ) → is_quote q ≡ true
    → is_plain q multi (first text) ≡ false → special q multi text ≡ Some p → Passed q multi text p
unfolding special after_content
special_passed q multi [] p h plain e = grind (arith, nat_tests)
special_passed q true (c ∷ cs) p h plain e =
    grind (arith, nat_tests, last_three q (c ∷ cs), passed true q (c ∷ cs), escape_passed true cs)
special_passed q false (c ∷ cs) p h plain e =
    grind (arith, nat_tests, passed false q (c ∷ cs), escape_passed false cs)

-- the content of a string ends where it was read to
content_skipped : (q : ℕ) (multi : Bool) (n : ℕ) (text : List ℕ) (r : List ℕ × List ℕ) → is_quote q ≡ true
    → body q multi n text ≡ Some r → after_content multi q false text ≡ r.1
unfolding body
content_skipped q multi zero text r h e = grind (arith, nat_tests)
content_skipped q multi (suc n) text r h e =
    elim (cases_Bool (is_plain q multi (first text))) [
      | inl plain ↦ grind (arith, nat_tests, passed multi q text, content_skipped q multi n (drop 1 text))
      | inr other ↦ option_and_then_some _ (special q multi text) _ (rw other at e) (λ p read more.
          let here : Passed q multi text p = special_passed q multi text p h other read in
          grind (arith, nat_tests, content_skipped q multi n p.1))
    ]

-- the newline after the first three quotes is passed over
trim_passed : (q : ℕ) (text : List ℕ) → is_quote q ≡ true
    → after_content true q false text ≡ after_content true q false (trim_newline text)
trim_passed q [] h = refl
trim_passed q (c ∷ cs) h = grind (arith, nat_tests, passed true q (c ∷ cs), passed true q cs)

-- a string that is read is skipped
pub strings_are_skipped : StringsAreSkipped
unfolding quoted one_line
strings_are_skipped text s rest starts e =
    grind (arith, nat_tests, trim_passed (first text) (drop 3 text), content_skipped (first text))

-- so is a string of one line, where no quote follows
pub line_skipped : (text s rest : List ℕ) → starts_string text ≡ true → one_line text ≡ Some (s, rest)
    → (first rest == first text) ≡ false → after_string text ≡ rest
unfolding one_line after_content
line_skipped [] s rest starts e apart = absurd (false≢true starts)
line_skipped (q ∷ []) s rest starts e apart = grind (arith, nat_tests, content_skipped q false 1 [])
line_skipped (q ∷ c ∷ cs) s rest starts e apart =
    grind (arith, nat_tests, content_skipped q false (length (q ∷ c ∷ cs)) (c ∷ cs))
