-- What a change keeps: each path that parts from the changed value's, and in a changed table each other key.
use Rattle.std.proofs.Common.{◌≡◌, inl, inr, ℕ, zero, suc, cond, [], ◌∷◌, Bool, true, false, Option, Some, None, is_some, option_map, option_and_then, Ordering, Less, Equal, Greater, nat_cmp, is_eq, refl, sym, ap, ◌∙◌}
use Rattle.std.proofs.lemmas.Option.{none-some, same_Some}
use Rattle.std.proofs.lemmas.Map.Text.{is_eq-slice_cmp}
use Rattle.std.proofs.lemmas.Slice.Eq.{bytes_eq-Decides}
use Rattle.std.specs.Cmp.Lexicographic.{slice_cmp}
use Rattle.std.specs.Ordering.{match_ordering}
use Rattle.toml.specs.Data.{Data, string, integer, float, boolean, datetime, array, table, Items, no_items, item, Members, no_members, member, get_member, get_item}
use Rattle.manifest_places.specs.Paths.{Text, key, index, Path, value_at, Apart}
use Rattle.manifest_places.specs.Changes.{change_member, change_item, changed_at, put_member, with_member, without_member}
use Rattle.manifest_places.proofs.There.{from_map}

same_from : (k l : Text) → slice_cmp nat_cmp k l ≡ Equal → k ≡ l
same_from k l h = (bytes_eq-Decides k l).0 (sym (is_eq-slice_cmp k l) ∙ ap is_eq h)

-- what f made of what was there is there now
Turned : (Data → Option Data) → Option Data → Option Data → Type 0
Turned f before after = (d : Data) × (e : Data) × (before ≡ Some d) × (f d ≡ Some e) × (after ≡ Some e)

-- at the key that is changed
turn : (o : Ordering) (k l : Text) (f : Data → Option Data) (d : Data) (ms ms' : Members)
    → ((more : Members) → change_member k f ms ≡ Some more → Turned f (get_member k ms) (get_member k more))
    → slice_cmp nat_cmp k l ≡ o
    → cond (is_eq o) (option_map (λ e. member l e ms) (f d))
    (option_map (λ more. member l d more) (change_member k f ms)) ≡ Some ms'
    → Turned f (get_member k (member l d ms)) (get_member k ms')
unfolding Turned
turn Equal k l f d ms ms' more is h =
    from_map (λ e. member l e ms) (f d) (λ x. Turned f (get_member k (member l d ms)) (get_member k x))
    (λ e made. (d, e, rw is refl, made, rw is refl)) ms' h
turn Less k l f d ms ms' more is h =
    from_map (λ rest. member l d rest) (change_member k f ms)
    (λ x. Turned f (get_member k (member l d ms)) (get_member k x)) (λ rest made. rw is (more rest made)) ms' h
turn Greater k l f d ms ms' more is h =
    from_map (λ rest. member l d rest) (change_member k f ms)
    (λ x. Turned f (get_member k (member l d ms)) (get_member k x)) (λ rest made. rw is (more rest made)) ms' h

turned_member : (k : Text) (f : Data → Option Data) (ms ms' : Members) → change_member k f ms ≡ Some ms'
    → Turned f (get_member k ms) (get_member k ms')
turned_member k f no_members ms' h = absurd (none-some ms' h)
turned_member k f (member l d ms) ms' h = turn (slice_cmp nat_cmp k l) k l f d ms ms' (turned_member k f ms) refl h

turned_item : (n : ℕ) (f : Data → Option Data) (ds ds' : Items) → change_item n f ds ≡ Some ds'
    → Turned f (get_item n ds) (get_item n ds')
unfolding Turned
turned_item n f no_items ds' h = absurd (none-some ds' h)
turned_item zero f (item d ds) ds' h =
    from_map (λ e. item e ds) (f d) (λ x. Turned f (get_item 0 (item d ds)) (get_item 0 x))
    (λ e made. (d, e, refl, made, refl)) ds' h
turned_item (suc n) f (item d ds) ds' h =
    from_map (λ rest. item d rest) (change_item n f ds)
    (λ x. Turned f (get_item (suc n) (item d ds)) (get_item (suc n) x)) (turned_item n f ds) ds' h

-- at another key: whichever way j compares with l, the entry at l is passed over or kept
pass : (o : Ordering) (a b c d : Option Data) → a ≡ c → b ≡ d → match_ordering o a b a ≡ match_ordering o c d c
pass o a b c d p q = rw (p, q)

other : (o u : Ordering) (k j l : Text) (f : Data → Option Data) (d : Data) (ms ms' : Members) → (k ≡ j → ⊥)
    → ((more : Members) → change_member k f ms ≡ Some more → get_member j more ≡ get_member j ms)
    → slice_cmp nat_cmp k l ≡ o → slice_cmp nat_cmp j l ≡ u
    → cond (is_eq o) (option_map (λ e. member l e ms) (f d))
    (option_map (λ more. member l d more) (change_member k f ms)) ≡ Some ms'
    → get_member j ms' ≡ get_member j (member l d ms)
other Equal Equal k j l f d ms ms' differ more is was h = absurd (differ (same_from k l is ∙ sym (same_from j l was)))
other Equal Less k j l f d ms ms' differ more is was h =
    from_map (λ e. member l e ms) (f d) (λ x. get_member j x ≡ get_member j (member l d ms))
    (λ e made. rw was refl) ms' h
other Equal Greater k j l f d ms ms' differ more is was h =
    from_map (λ e. member l e ms) (f d) (λ x. get_member j x ≡ get_member j (member l d ms))
    (λ e made. rw was refl) ms' h
other Less u k j l f d ms ms' differ more is was h =
    from_map (λ rest. member l d rest) (change_member k f ms) (λ x. get_member j x ≡ get_member j (member l d ms))
    (λ rest made. rw (more rest made) refl) ms' h
other Greater u k j l f d ms ms' differ more is was h =
    from_map (λ rest. member l d rest) (change_member k f ms) (λ x. get_member j x ≡ get_member j (member l d ms))
    (λ rest made. rw (more rest made) refl) ms' h

other_member : (k j : Text) (f : Data → Option Data) (ms ms' : Members) → (k ≡ j → ⊥)
    → change_member k f ms ≡ Some ms' → get_member j ms' ≡ get_member j ms
other_member k j f no_members ms' differ h = absurd (none-some ms' h)
other_member k j f (member l d ms) ms' differ h =
    other (slice_cmp nat_cmp k l) (slice_cmp nat_cmp j l) k j l f d ms ms' differ
    (λ more made. other_member k j f ms more differ made) refl refl h

other_item : (n i : ℕ) (f : Data → Option Data) (ds ds' : Items) → (n ≡ i → ⊥) → change_item n f ds ≡ Some ds'
    → get_item i ds' ≡ get_item i ds
other_item n i f no_items ds' differ h = absurd (none-some ds' h)
other_item zero zero f (item d ds) ds' differ h = absurd (differ refl)
other_item zero (suc i) f (item d ds) ds' differ h =
    from_map (λ e. item e ds) (f d) (λ x. get_item (suc i) x ≡ get_item (suc i) (item d ds)) (λ e made. refl) ds' h
other_item (suc n) zero f (item d ds) ds' differ h =
    from_map (λ rest. item d rest) (change_item n f ds) (λ x. get_item 0 x ≡ get_item 0 (item d ds))
    (λ rest made. refl) ds' h
other_item (suc n) (suc i) f (item d ds) ds' differ h =
    from_map (λ rest. item d rest) (change_item n f ds) (λ x. get_item (suc i) x ≡ get_item (suc i) (item d ds))
    (λ rest made. other_item n i f ds rest (λ e. differ (ap suc e)) made) ds' h

-- what g finds below is the same, where f keeps it
below : (g f : Data → Option Data) (before after : Option Data) → Turned f before after
    → ((d d' : Data) → f d ≡ Some d' → g d' ≡ g d)
    → option_and_then g after ≡ option_and_then g before
unfolding Turned
below g f before after (d, d', was, put, is) keeps = rw (is, was) (keeps d d' put)

pub others_are_kept : (p q : Path) (f : Data → Option Data) (d d' : Data) → Apart p q → changed_at p f d ≡ Some d'
    → value_at q d' ≡ value_at q d
others_are_kept [] q f d d' apart h = absurd apart
others_are_kept (s ∷ p) [] f d d' apart h = absurd apart
others_are_kept (key k ∷ p) (key j ∷ q) f (table ms) d' apart h =
    from_map table (change_member k (changed_at p f) ms) (λ x. value_at (key j ∷ q) x ≡ value_at (key j ∷ q) (table ms))
    (λ more made. elim apart [
      | inl differ ↦ ap (option_and_then (value_at q))
          (other_member k j (changed_at p f) ms more (λ same. differ (ap key same)) made)
      | inr both ↦
          let same : k ≡ j = cc (both.0) in
          let at_k = below (value_at q) (changed_at p f) (get_member k ms) (get_member k more)
          (turned_member k (changed_at p f) ms more made) (λ x x' put. others_are_kept p q f x x' both.1 put) in
          rw same at at_k
    ]) d' h
others_are_kept (key k ∷ p) (index j ∷ q) f (table ms) d' apart h =
    from_map table (change_member k (changed_at p f) ms)
    (λ x. value_at (index j ∷ q) x ≡ value_at (index j ∷ q) (table ms)) (λ more made. refl) d' h
others_are_kept (key k ∷ p) (t ∷ q) f (array ds) d' apart h = absurd (none-some d' h)
others_are_kept (key k ∷ p) (t ∷ q) f (string x) d' apart h = absurd (none-some d' h)
others_are_kept (key k ∷ p) (t ∷ q) f (integer x) d' apart h = absurd (none-some d' h)
others_are_kept (key k ∷ p) (t ∷ q) f (float x) d' apart h = absurd (none-some d' h)
others_are_kept (key k ∷ p) (t ∷ q) f (boolean x) d' apart h = absurd (none-some d' h)
others_are_kept (key k ∷ p) (t ∷ q) f (datetime x) d' apart h = absurd (none-some d' h)
others_are_kept (index i ∷ p) (index j ∷ q) f (array ds) d' apart h =
    from_map array (change_item i (changed_at p f) ds)
    (λ x. value_at (index j ∷ q) x ≡ value_at (index j ∷ q) (array ds))
    (λ more made. elim apart [
      | inl differ ↦ ap (option_and_then (value_at q))
          (other_item i j (changed_at p f) ds more (λ same. differ (ap index same)) made)
      | inr both ↦
          let same : i ≡ j = cc (both.0) in
          let at_i = below (value_at q) (changed_at p f) (get_item i ds) (get_item i more)
          (turned_item i (changed_at p f) ds more made) (λ x x' put. others_are_kept p q f x x' both.1 put) in
          rw same at at_i
    ]) d' h
others_are_kept (index i ∷ p) (key j ∷ q) f (array ds) d' apart h =
    from_map array (change_item i (changed_at p f) ds)
    (λ x. value_at (key j ∷ q) x ≡ value_at (key j ∷ q) (array ds)) (λ more made. refl) d' h
others_are_kept (index i ∷ p) (t ∷ q) f (table ms) d' apart h = absurd (none-some d' h)
others_are_kept (index i ∷ p) (t ∷ q) f (string x) d' apart h = absurd (none-some d' h)
others_are_kept (index i ∷ p) (t ∷ q) f (integer x) d' apart h = absurd (none-some d' h)
others_are_kept (index i ∷ p) (t ∷ q) f (float x) d' apart h = absurd (none-some d' h)
others_are_kept (index i ∷ p) (t ∷ q) f (boolean x) d' apart h = absurd (none-some d' h)
others_are_kept (index i ∷ p) (t ∷ q) f (datetime x) d' apart h = absurd (none-some d' h)

-- a new entry leaves what stands at another key
beside_same : (u : Ordering) (j l : Text) (e d : Data) (ms : Members) → (l ≡ j → ⊥) → slice_cmp nat_cmp j l ≡ u
    → get_member j (member l e ms) ≡ get_member j (member l d ms)
beside_same Equal j l e d ms differ was = absurd (differ (sym (same_from j l was)))
beside_same Less j l e d ms differ was = rw was refl
beside_same Greater j l e d ms differ was = rw was refl

put_beside : (o u : Ordering) (k j l : Text) (e d : Data) (ms : Members) → (k ≡ j → ⊥)
    → get_member j (put_member k e ms) ≡ get_member j ms → slice_cmp nat_cmp k l ≡ o → slice_cmp nat_cmp j k ≡ u
    → get_member j (match_ordering o (member k e (member l d ms)) (member l e ms) (member l d (put_member k e ms)))
    ≡ get_member j (member l d ms)
put_beside Less Equal k j l e d ms differ more is was = absurd (differ (sym (same_from j k was)))
put_beside Less Less k j l e d ms differ more is was = rw was refl
put_beside Less Greater k j l e d ms differ more is was = rw was refl
put_beside Equal u k j l e d ms differ more is was =
    beside_same (slice_cmp nat_cmp j l) j l e d ms (λ (same : l ≡ j). differ (same_from k l is ∙ same)) refl
put_beside Greater u k j l e d ms differ more is was = rw more refl

put_in_none : (u : Ordering) (k j : Text) (e : Data) → (k ≡ j → ⊥) → slice_cmp nat_cmp j k ≡ u
    → get_member j (member k e no_members) ≡ None
put_in_none Equal k j e differ was = absurd (differ (sym (same_from j k was)))
put_in_none Less k j e differ was = rw was refl
put_in_none Greater k j e differ was = rw was refl

put_keeps : (k j : Text) (e : Data) (ms : Members) → (k ≡ j → ⊥) → get_member j (put_member k e ms) ≡ get_member j ms
put_keeps k j e no_members differ = put_in_none (slice_cmp nat_cmp j k) k j e differ refl
put_keeps k j e (member l d ms) differ =
    put_beside (slice_cmp nat_cmp k l) (slice_cmp nat_cmp j k) k j l e d ms differ (put_keeps k j e ms differ) refl refl

the_choice : (b : Bool) (x y : Members) → cond b None (Some x) ≡ Some y → x ≡ y
the_choice true x y h = absurd (none-some y h)
the_choice false x y h = same_Some x y h

pub insert_keeps_others : (k j : Text) (e : Data) (ms ms' : Members) → (k ≡ j → ⊥) → with_member k e ms ≡ Some ms'
    → get_member j ms' ≡ get_member j ms
insert_keeps_others k j e ms ms' differ h =
    ap (get_member j) (sym (the_choice (is_some (get_member k ms)) (put_member k e ms) ms' h))
    ∙ put_keeps k j e ms differ

-- and so does an entry that is taken out
take_beside : (o u : Ordering) (k j l : Text) (d : Data) (ms ms' : Members) → (k ≡ j → ⊥)
    → ((more : Members) → without_member k ms ≡ Some more → get_member j more ≡ get_member j ms)
    → slice_cmp nat_cmp k l ≡ o → slice_cmp nat_cmp j l ≡ u
    → cond (is_eq o) (Some ms) (option_map (λ more. member l d more) (without_member k ms)) ≡ Some ms'
    → get_member j ms' ≡ get_member j (member l d ms)
take_beside Equal Equal k j l d ms ms' differ more is was h = absurd
    (differ (same_from k l is ∙ sym (same_from j l was)))
take_beside Equal Less k j l d ms ms' differ more is was h = rw (← same_Some ms ms' h, was)
take_beside Equal Greater k j l d ms ms' differ more is was h = rw (← same_Some ms ms' h, was)
take_beside Less u k j l d ms ms' differ more is was h =
    from_map (λ rest. member l d rest) (without_member k ms) (λ x. get_member j x ≡ get_member j (member l d ms))
    (λ rest made. rw (more rest made) refl) ms' h
take_beside Greater u k j l d ms ms' differ more is was h =
    from_map (λ rest. member l d rest) (without_member k ms) (λ x. get_member j x ≡ get_member j (member l d ms))
    (λ rest made. rw (more rest made) refl) ms' h

pub remove_keeps_others : (k j : Text) (ms ms' : Members) → (k ≡ j → ⊥) → without_member k ms ≡ Some ms'
    → get_member j ms' ≡ get_member j ms
remove_keeps_others k j no_members ms' differ h = absurd (none-some ms' h)
remove_keeps_others k j (member l d ms) ms' differ h =
    take_beside (slice_cmp nat_cmp k l) (slice_cmp nat_cmp j l) k j l d ms ms' differ
    (λ more made. remove_keeps_others k j ms more differ made) refl refl h
