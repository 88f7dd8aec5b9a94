-- A text of few marks leads no deeper than the limits.
use Rattle.std.proofs.Common.{◌≡◌, ℕ, zero, suc, ◌+◌, ◌≤◌, Bool, true, false, ◌==◌, if◌then◌else◌, List, [], ◌∷◌, length, drop, Option, None, Some, option_map, unwrap_or, slice_get, refl, leb-true, length-append, length-take, arith}
use Rattle.std.proofs.lemmas.Bool.{cond_both}
use Rattle.std.proofs.lemmas.Bool.Decides.{nat_tests}
use Rattle.std.proofs.lemmas.List.Elements.{All-nil, All-push, All-take}
use Rattle.std.proofs.lemmas.List.Sums.{sum_by-cons, sum_by-take-drop}
use Rattle.std.proofs.lemmas.Option.{gets}
use Rattle.std.specs.List.{All, count_by}
use Rattle.std.specs.Option.{MatchOption}
use Rattle.toml_parser.specs.Lexical.{first}
use Rattle.toml_parser.specs.Strings.{starts_string}
use Rattle.manifest_nesting.specs.declared.nesting.Nesting.{Nesting}
use Rattle.manifest_nesting.specs.Skipped.{after_content, after_string, after_comment}
use Rattle.manifest_nesting.specs.Nesting.{after_byte, scan, start, begun, is_mark, marks}
use Rattle.manifest_nesting.specs.Laws.{FewMarksNestNoDeeper}

-- ROOM for all that was led to: the levels and the dots of a key, the open brackets, and the depths that they stand at
record Room (w : ℕ) (n : Nesting) : Type 0 where
  pub dots_fit : n.depth + n.dots ≤ w
  pub above_fits : n.depth + n.above ≤ w
  pub few : length n.outer.items ≤ w
  pub low : All (λ d. d ≤ w) n.outer.items

-- where a bracket closes, it is no deeper than at one of these depths
back_low : (w i d : ℕ) (xs : List ℕ) → d ≤ w → All (λ x. x ≤ w) xs → unwrap_or (slice_get xs i) d ≤ w
back_low w i d xs here low = grind (arith, gets)

-- it leads no deeper than a limit, and there is room for what it leads to
abbrev Leads : ℕ → Option Nesting → Type 0
Leads w o = MatchOption o ⊥ (Room w)

-- a mark takes room for one, and no other byte takes any
byte_leads : (v w c : ℕ) (n : Nesting) → v + (if is_mark c then 1 else 0) ≤ w → w ≤ 112 → Room v n
    → Leads w (after_byte c n)
byte_leads v w c n up few h =
    let low : All (λ d. d ≤ w) n.outer.items = λ k d inside. omega (arith, h.low k d inside) in
    grind (arith, nat_tests, back_low w, length-append, length-take, All-push (λ d. d ≤ w), All-take (λ d. d ≤ w))

-- MARKS, or other bytes that pass a test: no more of them stand in the rest of a text than in the text
rest_counts : (p : ℕ → Bool) (k : ℕ) (text : List ℕ) → count_by p (drop k text) ≤ count_by p text
rest_counts p k text = omega (arith, sum_by-take-drop (λ c. if p c then 1 else 0) text k)

-- nor in one of two texts than both can have
either_counts : (p : ℕ → Bool) (m : ℕ) (b : Bool) (x y : List ℕ) → count_by p x ≤ m → count_by p y ≤ m
    → count_by p (if b then x else y) ≤ m
either_counts p m true x y h i = h
either_counts p m false x y h i = i

-- nor after the content of a string
content_counts : (p : ℕ → Bool) (several : Bool) (q : ℕ) (escaped : Bool) (text : List ℕ)
    → count_by p (after_content several q escaped text) ≤ count_by p text
unfolding after_content
content_counts p several q escaped [] = omega arith
content_counts p several q escaped (c ∷ cs) =
    let rest : (e : Bool) → count_by p (after_content several q e cs) ≤ count_by p (c ∷ cs) =
    λ e. omega (arith, content_counts p several q e cs, rest_counts p 1 (c ∷ cs)) in
    search (either_counts, rest, rest_counts p 1 (c ∷ cs), rest_counts p 3 (c ∷ cs))

-- nor after a string
string_counts : (p : ℕ → Bool) (text : List ℕ) → count_by p (after_string text) ≤ count_by p text
string_counts p text =
    grind (
      arith,
      rest_counts p 1 text,
      rest_counts p 3 text,
      content_counts p true (first text) false (drop 3 text),
      content_counts p false (first text) false (drop 1 text),
    )

-- nor after a comment
comment_counts : (p : ℕ → Bool) (text : List ℕ) → count_by p (after_comment text) ≤ count_by p text
unfolding after_comment
comment_counts p [] = omega arith
comment_counts p (c ∷ cs) = grind (arith, rest_counts p 1 (c ∷ cs), comment_counts p cs)

-- a turn leads no deeper, nor do the next k turns
abbrev Ends : ℕ → Option (Nesting × List ℕ) → Type 0
Ends k o = unwrap_or (option_map (λ (p : Nesting × List ℕ). scan k p.0 p.1) o) true ≡ false

-- so it is at a byte
byte_ends : (k w : ℕ) (o : Option Nesting) (cs : List ℕ) → Leads w o
    → ((m : Nesting) → Room w m → scan k m cs ≡ false) → Ends k (option_map (λ m. (m, cs)) o)
byte_ends k w None cs h go = absurd h
byte_ends k w (Some m) cs h go = go m h

-- a text leads no deeper where there is room for all of its marks
scan_ends : (k w : ℕ) (n : Nesting) (text : List ℕ) → Room w n → w + marks text ≤ 112 → scan k n text ≡ false
unfolding scan
scan_ends zero w n text h few = refl
scan_ends (suc k) w n [] h few = refl
scan_ends (suc k) w n (c ∷ cs) h few =
    let v : ℕ = w + (if is_mark c then 1 else 0) in
    let all : v + marks cs ≤ 112 = omega (arith, sum_by-cons (λ d. if is_mark d then 1 else 0) c cs) in
    cond_both (starts_string (c ∷ cs)) _ _ (Ends k)
    (λ _. scan_ends k w (begun n) _ (assumption) (omega (arith, string_counts is_mark (c ∷ cs))))
    (λ _. cond_both (c == 35) _ _ (Ends k)
    (λ _. scan_ends k w n _ h (omega (arith, comment_counts is_mark (c ∷ cs))))
    (λ _. byte_ends k v _ cs (byte_leads w v c n (omega arith) (omega arith) h) (λ m r. scan_ends k v m cs r all)))

-- so does a text of few marks, from its start
pub few_marks_nest_no_deeper : FewMarksNestNoDeeper
few_marks_nest_no_deeper text few =
    scan_ends (length text) 0 start text (grind (arith, All-nil)) (omega (arith, leb-true (marks text) 112 few))
