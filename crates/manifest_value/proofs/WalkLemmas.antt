-- A table with one more entry at its end, and what is found in it.
use Rattle.manifest_schema.specs.Prelude.{or-false, replicate, and_parts, or_parts, or_cases, or_right, not-true, cases_Bool, slice_cmp, match_ordering, ordering_reverse, nat_list_cmp_total, is_eq-slice_cmp, bytes_eq-Decides, Data, Members, no_members, member, get_member, same_key, join, with_last, Text, Spellings, Slot, only, both, absent, slot_of_two, at, is_among, without, spell, differ, spellings_of}
use Rattle.std.proofs.Common.{◌≡◌, ℕ, zero, suc, Bool, true, false, not, ◌||◌, if◌then◌else◌, List, [], ◌∷◌, Option, Some, None, Ordering, Less, Equal, Greater, nat_cmp, refl, sym, ap, ◌∙◌, subst, true≢false, inl, inr, ◌++◌, map, length, get_or, slice_set, bytes_eq, Bor, ◌<◌, arith, ◌+◌, drop, drop-cons, add-one}
use Rattle.std.proofs.Math.Bool.{or_assoc}
use Rattle.manifest_schema.proofs.Tables.TableLaws.{same_key-true, turned, get-member_other, get-member_same}
use Rattle.manifest_value.specs.Walks.{spellings_view, all_words, distinct_words, slots_at, filled, filled_at, is_word_at, IsBelow, Ascend}
use Rattle.manifest_value.specs.Sources.{key_view, source_view, rest_view}
use Rattle.manifest_value.specs.declared.entries.Key.{Key}
use Rattle.manifest_value.specs.declared.source.Source.{Source}
use Rattle.manifest_value.specs.declared.spellings.Spellings.{Spellings as CodeSpellings}

-- ONE KEY
pub get-last_other : (j k : Text) (d : Data) (ms : Members) → same_key j k ≡ false
    → get_member j (with_last ms k d) ≡ get_member j ms
get-last_other j k d no_members h = get-member_other j k d no_members h
get-last_other j k d (member l e ms) h = rw (get-last_other j k d ms h) refl

pub get-last_same : (k : Text) (d : Data) (ms : Members) → get_member k ms ≡ None
    → get_member k (with_last ms k d) ≡ Some d
get-last_same k d no_members h = get-member_same k d no_members
get-last_same k d (member l e ms) h = at_order (slice_cmp nat_cmp k l) h (get-last_same k d ms)
  where
    at_order : (o : Ordering) → match_ordering o (get_member k ms) (Some e) (get_member k ms) ≡ None
        → (get_member k ms ≡ None → get_member k (with_last ms k d) ≡ Some d)
        → match_ordering o (get_member k (with_last ms k d)) (Some e) (get_member k (with_last ms k d)) ≡ Some d
    at_order Less g ih = ih g
    at_order Equal g ih = absurd (some_none g)
      where
        some_none : Some e ≡ None → ⊥
        some_none x = cc
    at_order Greater g ih = ih g

-- SPELLINGS
pub among_only : (k key : Text) → bytes_eq k key ≡ true → (ks : List Text) → is_among (k ∷ ks) key ≡ true
among_only k key h ks = rw (is_eq-slice_cmp k key, h) refl

pub among_first : (k : Text) (o : Option Text) (key : Text) → bytes_eq k key ≡ true → (k ≡ key)
    × (is_among (spell (spellings_of k o) []) key ≡ true)
among_first k None key h = ((bytes_eq-Decides k key).0 h, among_only k key h [])
among_first k (Some l) key h = ((bytes_eq-Decides k key).0 h, among_only k key h (l ∷ []))

pub among_second : (k l key : Text) → bytes_eq k key ≡ false → bytes_eq l key ≡ true → (l ≡ key)
    × (is_among (k ∷ l ∷ []) key ≡ true)
among_second k l key h g = ((bytes_eq-Decides l key).0 g, rw (is_eq-slice_cmp k key, h, is_eq-slice_cmp l key, g) refl)

pub among_neither : (k l key : Text) → bytes_eq k key ≡ false → bytes_eq l key ≡ false → is_among (k ∷ l ∷ [])
    key ≡ false
among_neither k l key h g = rw (is_eq-slice_cmp k key, h, is_eq-slice_cmp l key, g) refl

pub among_none : (k key : Text) → bytes_eq k key ≡ false → is_among (k ∷ []) key ≡ false
among_none k key h = rw (is_eq-slice_cmp k key, h) refl

-- the spellings of a row among other keys
pub among_spell : (s : Spellings) (ks : List Text) (k : Text) → is_among (spell s ks) k ≡ (is_among (spell s []) k
    || is_among ks k)
among_spell (only l) ks k = simp or-false
among_spell (both l m) ks k = simp (or-false, or_assoc)

-- a spelling of a row is not among the keys from which the row differs
pub apart : (s : Spellings) (ks : List Text) (k : Text) → differ s ks ≡ true → is_among (spell s []) k ≡ true
    → is_among ks k ≡ false
apart (only l) ks k h g = subst (λ x. is_among ks x ≡ false) (same_key-true l k (sym (or-false (same_key l k)) ∙ g))
    (not-true (is_among ks l) h)
apart (both l m) ks k h g =
    let (first, second) = and_parts (not (is_among (m ∷ ks) l)) (not (is_among ks m)) h in
    elim (or_cases (same_key l k) (same_key m k || false) g) [
      | inl e ↦ subst (λ x. is_among ks x ≡ false) (same_key-true l k e) (or_parts (same_key m l) (is_among ks l)
          (not-true _ first)).1
      | inr e ↦ subst (λ x. is_among ks x ≡ false) (same_key-true m k (sym (or-false (same_key m k)) ∙ e))
          (not-true (is_among ks m) second)
    ]

pub word_among : (i : ℕ) (ss : List Spellings) (k : Text) → is_word_at i ss k ≡ true → is_among (all_words ss) k ≡ true
word_among i [] k h = absurd (true≢false (sym h))
word_among zero (s ∷ ss) k h = among_spell s (all_words ss) k ∙ rw h refl
word_among (suc i) (s ∷ ss) k h = among_spell s (all_words ss) k ∙ or_right _ _ (word_among i ss k h)

-- A SLOT
pub at-last_other : (s : Spellings) (k : Text) (d : Data) (ms : Members) → is_among (spell s []) k ≡ false
    → at s (with_last ms k d) ≡ at s ms
at-last_other (only l) k d ms h = rw (get-last_other l k d ms (or_parts (same_key l k) false h).0) refl
at-last_other (both l m) k d ms h =
    let (first, more) = or_parts (same_key l k) (same_key m k || false) h in
    rw (get-last_other l k d ms first, get-last_other m k d ms (or_parts (same_key m k) false more).0) refl

filled_first : (l m : Text) (o : Option Data) (d : Data) → slot_of_two l m (Some d) o ≡ filled (slot_of_two l m None o)
    l d
filled_first l m None d = refl
filled_first l m (Some e) d = refl

filled_second : (l m : Text) (o : Option Data) (d : Data) → slot_of_two l m o (Some d) ≡ filled (slot_of_two l m o None)
    m d
filled_second l m None d = refl
filled_second l m (Some e) d = refl

at_first : (l m : Text) (d : Data) (ms : Members) → same_key m l ≡ false → get_member l ms ≡ None
    → at (both l m) (with_last ms l d) ≡ filled (at (both l m) ms) l d
at_first l m d ms h none = rw (get-last_same l d ms none, get-last_other m l d ms h, none)
    (filled_first l m (get_member m ms) d)

at_second : (l m : Text) (d : Data) (ms : Members) → same_key l m ≡ false → get_member m ms ≡ None
    → at (both l m) (with_last ms m d) ≡ filled (at (both l m) ms) m d
at_second l m d ms h none = rw (get-last_same m d ms none, get-last_other l m d ms h, none)
    (filled_second l m (get_member l ms) d)

at_only : (l : Text) (d : Data) (ms : Members) → get_member l ms ≡ None → at (only l) (with_last ms l d) ≡ filled
    (at (only l) ms) l d
at_only l d ms none = rw (get-last_same l d ms none, none) refl

pub at-last_same : (s : Spellings) (ks : List Text) (k : Text) (d : Data) (ms : Members) → differ s ks ≡ true
    → is_among (spell s []) k ≡ true → get_member k ms ≡ None
    → at s (with_last ms k d) ≡ filled (at s ms) k d
at-last_same (only l) ks k d ms h g none = subst (λ x. get_member x ms ≡ None → at (only l) (with_last ms x d) ≡ filled
    (at (only l) ms) x d) (same_key-true l k (sym (or-false (same_key l k)) ∙ g)) (at_only l d ms) none
at-last_same (both l m) ks k d ms h g none =
    let (first, second) = and_parts (not (is_among (m ∷ ks) l)) (not (is_among ks m)) h in
    let differs = (or_parts (same_key m l) (is_among ks l) (not-true _ first)).0 in
    elim (or_cases (same_key l k) (same_key m k || false) g) [
      | inl e ↦ subst (λ x. get_member x ms ≡ None → at (both l m) (with_last ms x d) ≡ filled (at (both l m) ms) x d)
          (same_key-true l k e) (at_first l m d ms differs) none
      | inr e ↦ subst (λ x. get_member x ms ≡ None → at (both l m) (with_last ms x d) ≡ filled (at (both l m) ms) x d)
          (same_key-true m k (sym (or-false (same_key m k)) ∙ e)) (at_second l m d ms (turned m l differs)) none
    ]

-- ALL SLOTS
pub slots-last_none : (ss : List Spellings) (k : Text) (d : Data) (ms : Members) → is_among (all_words ss) k ≡ false
    → slots_at ss (with_last ms k d) ≡ slots_at ss ms
slots-last_none [] k d ms h = refl
slots-last_none (s ∷ ss) k d ms h =
    let (here, later) = or_parts (is_among (spell s []) k) (is_among (all_words ss) k)
    (sym (among_spell s (all_words ss) k) ∙ h) in
    rw (at-last_other s k d ms here, slots-last_none ss k d ms later) refl

not_both : (s : Spellings) (ks : List Text) (k : Text) → differ s ks ≡ true → is_among ks k ≡ true
    → is_among (spell s []) k ≡ false
not_both s ks k h g = elim (cases_Bool (is_among (spell s []) k))
    [ inl e ↦ absurd (true≢false (sym g ∙ apart s ks k h e)) | inr e ↦ e ]

pub slots-last : (i : ℕ) (ss : List Spellings) (k : Text) (d : Data) (ms : Members) → distinct_words ss ≡ true
    → is_word_at i ss k ≡ true → get_member k ms ≡ None
    → slots_at ss (with_last ms k d) ≡ filled_at i k d (slots_at ss ms)
slots-last i [] k d ms h g none = absurd (true≢false (sym g))
slots-last zero (s ∷ ss) k d ms h g none =
    let (here, later) = and_parts (differ s (all_words ss)) (distinct_words ss) h in
    rw (at-last_same s (all_words ss) k d ms here g none, slots-last_none ss k d ms (apart s (all_words ss) k here g))
    refl
slots-last (suc i) (s ∷ ss) k d ms h g none =
    let (here, later) = and_parts (differ s (all_words ss)) (distinct_words ss) h in
    rw (
      at-last_other s k d ms (not_both s (all_words ss) k here (word_among i ss k g)),
      slots-last i ss k d ms later g
          none,
    ) refl

at_none : (s : Spellings) → absent ≡ at s no_members
at_none (only k) = refl
at_none (both k l) = refl

-- as many slots in which nothing is found yet
pub blanks-view : {X : Type 0} (f : X → Slot) (x : X) → f x ≡ absent → (rows : List CodeSpellings)
    → map f (replicate (length rows) x) ≡ slots_at (map spellings_view rows) no_members
blanks-view f x h [] = refl
blanks-view f x h (r ∷ rows) = rw (blanks-view f x h rows, ← at_none (spellings_view r), h) refl

pub word_at : (rows : List CodeSpellings) (i : ℕ) (d0 : CodeSpellings) (k : Text) → i < length rows
    → is_among (spell (spellings_view (get_or rows i d0)) []) k ≡ true → is_word_at i (map spellings_view rows) k ≡ true
word_at [] i d0 k h g = absurd (omega (arith, h))
word_at (r ∷ rows) zero d0 k h g = g
word_at (r ∷ rows) (suc i) d0 k h g = word_at rows i d0 k (omega (arith, h)) g

-- THE REST
pub without-last_named : (names : List Text) (k : Text) (d : Data) (ms : Members) → is_among names k ≡ true
    → without names (with_last ms k d) ≡ without names ms
without-last_named names k d no_members h = rw h refl
without-last_named names k d (member l e ms) h = rw (without-last_named names k d ms h) refl

pub without-last_other : (names : List Text) (k : Text) (d : Data) (ms : Members) → is_among names k ≡ false
    → without names (with_last ms k d) ≡ with_last (without names ms) k d
without-last_other names k d no_members h = rw h refl
without-last_other names k d (member l e ms) h = at_test (is_among names l) (without-last_other names k d ms h)
  where
    at_test : (b : Bool) → without names (with_last ms k d) ≡ with_last (without names ms) k d
        → (if b then without names (with_last ms k d) else member l e (without names (with_last ms k d))) ≡ with_last
        (if b then without names ms else member l e (without names ms)) k d
    at_test true ih = ih
    at_test false ih = ap (member l e) ih

pub rest-last : (es : List (Key × Source)) (e : Key × Source) → rest_view (es ++ e ∷ []) ≡ with_last (rest_view es)
    (key_view e.0) (source_view e.1)
rest-last [] e = refl
rest-last (x ∷ es) e = ap (member (key_view x.0) (source_view x.1)) (rest-last es e)

-- THE SLOTS OF A LIST
pub filled_at-set : {X : Type 0} (f : X → Slot) (i : ℕ) (xs : List X) (x d0 : X) (k : Text) (d : Data)
    → f x ≡ filled (f (get_or xs i d0)) k d → i < length xs → map f (slice_set xs i x) ≡ filled_at i k d (map f xs)
filled_at-set f i [] x d0 k d h g = absurd (omega (arith, g))
filled_at-set f zero (y ∷ xs) x d0 k d h g = rw h refl
filled_at-set f (suc i) (y ∷ xs) x d0 k d h g = ap (λ t. f y ∷ t) (filled_at-set f i xs x d0 k d h (omega (arith, g)))

-- A KEY THAT IS ABOVE ALL BEFORE
below_next : (l : Text) (done : Members) (k : Text) (d : Data) (more : Members)
    → IsBelow l (join done (member k d more)) → slice_cmp nat_cmp l k ≡ Less
below_next l no_members k d more h = h.0
below_next l (member j e done) k d more h = below_next l done k d more h.1

pub not_before : (done : Members) (k : Text) (d : Data) (more : Members) → Ascend (join done (member k d more))
    → get_member k done ≡ None
not_before no_members k d more h = refl
not_before (member l e done) k d more h =
    let above : slice_cmp nat_cmp k l ≡ Greater = nat_list_cmp_total.antisymm k l
    ∙ ap ordering_reverse (below_next l done k d more h.0) in
    rw above (not_before done k d more h.1)

-- NAMES
-- the first of the names from a place on, and the later ones
pub among_at : (ns : List (Bor Text)) (i : ℕ) (n : Bor Text) (k : Text) → i < length ns
    → is_among (map (λ n. n.now) (drop i ns)) k ≡ (bytes_eq (get_or ns i n).now k || is_among
    (map (λ n. n.now) (drop (i + 1) ns)) k)
among_at ns i n k h = rw (add-one, drop-cons ns i n, ← is_eq-slice_cmp (get_or ns i n).now k) refl
