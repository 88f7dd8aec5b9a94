-- Lemmas on what is written.
use Rattle.manifest_schema.specs.Prelude.{string, integer, boolean, array, table, member, Text, put, view, Value, slice_cmp, match_ordering, nat_list_cmp_total, ordering_reverse, and_parts, insert_entry, string_cmp, items_view, members_view}
use Rattle.std.proofs.Common.{◌≡◌, ℕ, ◌+◌, ◌<◌, ℤ, Bool, true, ◌&&◌, List, [], ◌∷◌, ◌++◌, length, take, drop, map, get_or, Ordering, Less, Equal, Greater, Vec, String, Global, Bor, string_bytes, nat_cmp, subst, refl, sym, ap, ◌∙◌, rules}
use Rattle.std.proofs.lemmas.List.{drop_more, take_more, take-append-drop}
use Rattle.toml.specs.Data.{item, push_item}
use Rattle.toml.proofs.Blanks.{below_from}
use Rattle.toml.proofs.Views.{items_view-push}
use Rattle.manifest_written.specs.Written.{written_view, list_view, pairs_view, is_below, ascends, list_ascends, pairs_ascend}
use Rattle.manifest_written.specs.declared.written.Written.{Written, Text as TextCase, Integer, Boolean, List as ListCase, Table as TableCase, Value as ValueCase, the_lemmas}

-- AN ENTRY that is written, and one that is made
abbrev pub Pair : Type 0
Pair = Bor Text × Written

abbrev pub Entry : Type 0
Entry = String Global × Value

-- ONE LEVEL
pub view_of_text : (s : Bor Text) → written_view (TextCase s) ≡ string s.now
view_of_text s = search (rules, the_lemmas)

pub view_of_integer : (z : ℤ) → written_view (Integer z) ≡ integer z
view_of_integer z = search (rules, the_lemmas)

pub view_of_boolean : (b : Bool) → written_view (Boolean b) ≡ boolean b
view_of_boolean b = search (rules, the_lemmas)

pub view_of_list : (v : Vec Written Global) → written_view (ListCase v) ≡ array (list_view v.items)
view_of_list v = search (rules, the_lemmas)

pub view_of_table : (v : Vec Pair Global) → written_view (TableCase v) ≡ table (pairs_view v.items)
view_of_table v = search (rules, the_lemmas)

pub view_of_value : (v : Bor Value) → written_view (ValueCase v) ≡ view v.now
view_of_value v = search (rules, the_lemmas)

pub ascends_text : (s : Bor Text) → ascends (TextCase s) ≡ true
ascends_text s = search (rules, the_lemmas)

pub ascends_integer : (z : ℤ) → ascends (Integer z) ≡ true
ascends_integer z = search (rules, the_lemmas)

pub ascends_boolean : (b : Bool) → ascends (Boolean b) ≡ true
ascends_boolean b = search (rules, the_lemmas)

pub ascends_list : (v : Vec Written Global) → ascends (ListCase v) ≡ list_ascends v.items
ascends_list v = search (rules, the_lemmas)

pub ascends_table : (v : Vec Pair Global) → ascends (TableCase v) ≡ pairs_ascend v.items
ascends_table v = search (rules, the_lemmas)

pub ascends_value : (v : Bor Value) → ascends (ValueCase v) ≡ true
ascends_value v = search (rules, the_lemmas)

pub ruleset written_levels = (view_of_text, view_of_integer, view_of_boolean, view_of_list, view_of_table, view_of_value, ascends_text, ascends_integer, ascends_boolean, ascends_list, ascends_table, ascends_value)

-- A PAIR AMONG OTHERS, at the place of its key
abbrev pub key_cmp : Bor Text → Bor Text → Ordering
key_cmp k l = slice_cmp nat_cmp k.now l.now

-- what holds of the keys and values of pairs
abbrev held : List Pair → List (Bor Text × Bool)
held es = map (λ e. (e.0, ascends e.1)) es

pairs_view-match_ordering : (o : Ordering) (a b c : List Pair)
    → pairs_view (match_ordering o a b c) ≡ match_ordering o (pairs_view a) (pairs_view b) (pairs_view c)
pairs_view-match_ordering Less a b c = refl
pairs_view-match_ordering Equal a b c = refl
pairs_view-match_ordering Greater a b c = refl

pub pairs_view-insert : (es : List Pair) (k : Bor Text) (v : Written)
    → pairs_view (insert_entry key_cmp es k v) ≡ put k.now (written_view v) (pairs_view es)
pairs_view-insert [] k v = refl
pairs_view-insert (e ∷ es) k v = pairs_view-match_ordering (key_cmp k e.0) _ _ _ ∙ rw (pairs_view-insert es k v)

-- the parts of pairs that ascend
ascend_parts : (e : Pair) (es : List Pair) → pairs_ascend (e ∷ es) ≡ true
    → (is_below e.0.now (held es) ≡ true) × (ascends e.1 ≡ true) × (pairs_ascend es ≡ true)
ascend_parts e es h =
    let (head, rest) = and_parts (is_below e.0.now (held es) && ascends e.1) (pairs_ascend es) h in
    let (first, value) = and_parts (is_below e.0.now (held es)) (ascends e.1) head in
    (first, value, rest)

below_insert_at : (o : Ordering) (j k : Bor Text) (v : Written) (e : Pair) (es : List Pair) → key_cmp j k ≡ Less
    → is_below j.now (held (e ∷ es)) ≡ true
    → is_below j.now (held (match_ordering o ((k, v) ∷ e ∷ es) ((e.0, v) ∷ es) (e ∷ insert_entry key_cmp es k v))) ≡ true
below_insert_at Less j k v e es below h = rw below
below_insert_at Equal j k v e es below h = h
below_insert_at Greater j k v e es below h = h

below_insert : (j k : Bor Text) (v : Written) (es : List Pair) → key_cmp j k ≡ Less
    → is_below j.now (held es) ≡ true → is_below j.now (held (insert_entry key_cmp es k v)) ≡ true
below_insert j k v [] below h = rw below
below_insert j k v (e ∷ es) below h = below_insert_at (key_cmp k e.0) j k v e es below h

insert_ascends_at : (o : Ordering) (k : Bor Text) (v : Written) (e : Pair) (es : List Pair) → o ≡ key_cmp k e.0
    → ascends v ≡ true → pairs_ascend (e ∷ es) ≡ true → pairs_ascend (insert_entry key_cmp es k v) ≡ true
    → pairs_ascend (match_ordering o ((k, v) ∷ e ∷ es) ((e.0, v) ∷ es) (e ∷ insert_entry key_cmp es k v)) ≡ true
insert_ascends_at Less k v e es same own h more = rw (← same, own, h)
insert_ascends_at Equal k v e es same own h more =
    let (first, value, rest) = ascend_parts e es h in
    rw (first, own, rest)
insert_ascends_at Greater k v e es same own h more =
    let (first, value, rest) = ascend_parts e es h in
    let below : key_cmp e.0 k ≡ Less =
    nat_list_cmp_total.antisymm e.0.now k.now ∙ ap ordering_reverse (sym same) in
    rw (below_insert e.0 k v es below first, value, more)

pub insert_ascends : (es : List Pair) (k : Bor Text) (v : Written) → ascends v ≡ true → pairs_ascend es ≡ true
    → pairs_ascend (insert_entry key_cmp es k v) ≡ true
insert_ascends [] k v own h = rw own
insert_ascends (e ∷ es) k v own h =
    insert_ascends_at (key_cmp k e.0) k v e es refl own h (insert_ascends es k v own (ascend_parts e es h).2)

-- one more item, and one more pair, whose key is above those before it
pub list_ascends_last : (ws : List Written) (w : Written) → list_ascends ws ≡ true → ascends w ≡ true
    → list_ascends (ws ++ w ∷ []) ≡ true
list_ascends_last [] w h own = rw own
list_ascends_last (v ∷ ws) w h own =
    let (first, rest) = and_parts (ascends v) (list_ascends ws) h in
    rw (first, list_ascends_last ws w rest own)

-- the key is above those of all pairs
abbrev pub IsAbove : Text → List Pair → Type 0
IsAbove k [] = Unit {0}
IsAbove k (e ∷ es) = (slice_cmp nat_cmp e.0.now k ≡ Less) × IsAbove k es

below_last : (l : Text) (es : List Pair) (e : Pair) → is_below l (held es) ≡ true
    → slice_cmp nat_cmp l e.0.now ≡ Less → is_below l (held (es ++ e ∷ [])) ≡ true
below_last l [] e h below = rw below
below_last l (f ∷ es) e h below = h

pub pairs_ascend_last : (es : List Pair) (e : Pair) → pairs_ascend es ≡ true → ascends e.1 ≡ true
    → IsAbove e.0.now es → pairs_ascend (es ++ e ∷ []) ≡ true
pairs_ascend_last [] e h own above = rw own
pairs_ascend_last (f ∷ es) e h own above =
    let (first, value, rest) = ascend_parts f es h in
    rw (below_last f.0.now es e first above.0, value, pairs_ascend_last es e rest own above.1)

-- ONE PART of a list, and what stands around it
pub around : {A : Type 0} (xs : List A) (i : ℕ) (x : A) → i < length xs → x ≡ get_or xs i x
    → xs ≡ take i xs ++ x ∷ drop (i + 1) xs
around xs i x short read = sym (take-append-drop i xs) ∙ ap (λ ds. take i xs ++ ds) (drop_more xs i x short
    ∙ ap (λ y. y ∷ drop (i + 1) xs) (sym read))

pub first_more : {A : Type 0} (xs : List A) (i : ℕ) (x : A) → i < length xs → x ≡ get_or xs i x
    → take (i + 1) xs ≡ take i xs ++ x ∷ []
first_more xs i x short read = take_more xs i x short ∙ ap (λ y. take i xs ++ y ∷ []) (sym read)

-- WHAT ASCENDS, ascends in each part
item_ascends_in : (ws : List Written) (w : Written) (more : List Written) → list_ascends (ws ++ w ∷ more) ≡ true
    → ascends w ≡ true
item_ascends_in [] w more h = (and_parts (ascends w) (list_ascends more) h).0
item_ascends_in (v ∷ ws) w more h = item_ascends_in ws w more (and_parts (ascends v) (list_ascends (ws ++ w ∷ more)) h).1

pub item_ascends : (ws : List Written) (i : ℕ) (w : Written) → i < length ws → w ≡ get_or ws i w
    → list_ascends ws ≡ true → ascends w ≡ true
item_ascends ws i w short read h =
    item_ascends_in (take i ws) w (drop (i + 1) ws) (subst (λ l. list_ascends l ≡ true) (around ws i w short read) h)

value_ascends_in : (es : List Pair) (e : Pair) (more : List Pair) → pairs_ascend (es ++ e ∷ more) ≡ true
    → ascends e.1 ≡ true
value_ascends_in [] e more h = (ascend_parts e more h).1
value_ascends_in (f ∷ es) e more h = value_ascends_in es e more (ascend_parts f (es ++ e ∷ more) h).2

pub value_ascends : (es : List Pair) (i : ℕ) (e : Pair) → i < length es → e ≡ get_or es i e
    → pairs_ascend es ≡ true → ascends e.1 ≡ true
value_ascends es i e short read h =
    value_ascends_in (take i es) e (drop (i + 1) es) (subst (λ l. pairs_ascend l ≡ true) (around es i e short read) h)

-- A KEY THAT IS ABOVE those before it goes last
below_all : (l : Text) (es : List Pair) (e : Pair) (more : List Pair) → is_below l (held (es ++ e ∷ more)) ≡ true
    → pairs_ascend (es ++ e ∷ more) ≡ true → slice_cmp nat_cmp l e.0.now ≡ Less
below_all l [] e more first h = below_from l e.0.now first
below_all l (f ∷ es) e more first h =
    let (next, value, rest) = ascend_parts f (es ++ e ∷ more) h in
    nat_list_cmp_total.trans l f.0.now e.0.now (below_from l f.0.now first) (below_all f.0.now es e more next rest)

pub put_last : (es : List Pair) (e : Pair) (more : List Pair) → pairs_ascend (es ++ e ∷ more) ≡ true
    → put e.0.now (written_view e.1) (pairs_view es) ≡ pairs_view (es ++ e ∷ [])
put_last [] e more h = refl
put_last (f ∷ es) e more h =
    let (next, value, rest) = ascend_parts f (es ++ e ∷ more) h in
    let above : slice_cmp nat_cmp e.0.now f.0.now ≡ Greater =
    nat_list_cmp_total.antisymm e.0.now f.0.now ∙ ap ordering_reverse (below_all f.0.now es e more next rest) in
    rw above (ap (member f.0.now (written_view f.1)) (put_last es e more rest))

-- THE ENTRIES OF A MAP with one more
members_view-match_ordering : (o : Ordering) (a b c : List Entry)
    → members_view (match_ordering o a b c) ≡ match_ordering o (members_view a) (members_view b) (members_view c)
members_view-match_ordering Less a b c = refl
members_view-match_ordering Equal a b c = refl
members_view-match_ordering Greater a b c = refl

members_view-insert : (es : List Entry) (k : String Global) (v : Value)
    → members_view (insert_entry string_cmp es k v) ≡ put (string_bytes k) (view v) (members_view es)
members_view-insert [] k v = refl
members_view-insert (e ∷ es) k v = members_view-match_ordering (string_cmp k e.0) _ _ _
    ∙ rw (members_view-insert es k v)

-- ONE MORE ITEM is made, and one more entry
pub items_pushed : (ws : List Written) (w : Written) → list_view (ws ++ w ∷ []) ≡ push_item (list_view ws) (written_view w)
items_pushed [] w = refl
items_pushed (x ∷ ws) w = ap (item (written_view x)) (items_pushed ws w)

pub items_more : (vs : List Value) (ws : List Written) (i : ℕ) (v : Value) (w : Written) → i < length ws
    → w ≡ get_or ws i w → items_view vs ≡ list_view (take i ws) → view v ≡ written_view w
    → items_view (vs ++ v ∷ []) ≡ list_view (take (i + 1) ws)
items_more vs ws i v w short read same is =
    items_view-push vs v ∙ rw (same, is) (sym (items_pushed (take i ws) w))
    ∙ ap list_view (sym (first_more ws i w short read))

pub members_more : (ms : List Entry) (es : List Pair) (i : ℕ) (name : String Global) (v : Value) (e : Pair)
    → i < length es → e ≡ get_or es i e → pairs_ascend es ≡ true → members_view ms ≡ pairs_view (take i es)
    → string_bytes name ≡ e.0.now → view v ≡ written_view e.1
    → members_view (insert_entry string_cmp ms name v) ≡ pairs_view (take (i + 1) es)
members_more ms es i name v e short read h same named is =
    members_view-insert ms name v ∙ rw (same, named, is) (put_last (take i es) e (drop (i + 1) es)
    (subst (λ l. pairs_ascend l ≡ true) (around es i e short read) h))
    ∙ ap pairs_view (sym (first_more es i e short read))
