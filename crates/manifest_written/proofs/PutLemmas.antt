-- Lemmas on the search for the place of a key.
use Rattle.manifest_schema.specs.Prelude.{Text, insert_entry, put}
use Rattle.std.proofs.Common.{◌≡◌, ℕ, suc, ◌+◌, ◌<◌, ◌≤◌, List, [], ◌∷◌, ◌++◌, length, take, drop, set, get_or, true, Less, Equal, Greater, Bor, refl, sym, ap, ◌∙◌, arith, append_assoc}
use Rattle.std.proofs.lemmas.List.{drop_more, set_split, take_all, drop_all}
use Rattle.manifest_written.specs.Written.{written_view, pairs_view, ascends, pairs_ascend}
use Rattle.manifest_written.specs.declared.written.Written.{Written}
use Rattle.manifest_written.proofs.WrittenLemmas.{Pair, key_cmp, pairs_view-insert, insert_ascends, first_more}

-- the pair goes after the first i of them
abbrev pub GoesAfter : Bor Text → Written → ℕ → List Pair → List Pair → Type 0
GoesAfter k v i es all = insert_entry key_cmp all k v ≡ take i es ++ insert_entry key_cmp (drop i es) k v

plus_one : (n : ℕ) → suc n ≡ n + 1
plus_one n = omega arith

module _ (all es : List Pair) (i : ℕ) (e : Pair) (k : Bor Text) (v : Written) (passed : GoesAfter k v i es all)
    (short : i < length es) (read : e ≡ get_or es i e)
  where
    left : drop i es ≡ e ∷ drop (i + 1) es
    left = drop_more es i e short ∙ ap (λ x. x ∷ drop (i + 1) es) (sym read)

    pub goes_before : key_cmp k e.0 ≡ Less → take i es ++ (k, v) ∷ drop i es ≡ insert_entry key_cmp all k v
    goes_before less = sym (passed ∙ rw (left, less) refl)

    pub goes_in_place : key_cmp k e.0 ≡ Equal → set es i (e.0, v) ≡ insert_entry key_cmp all k v
    goes_in_place equal =
        set_split es i (e.0, v) short ∙ ap (λ n. take i es ++ (e.0, v) ∷ drop n es) (plus_one i)
        ∙ sym (passed ∙ rw (left, equal) refl)

    pub goes_after : key_cmp k e.0 ≡ Greater → GoesAfter k v (i + 1) es all
    goes_after greater =
        passed ∙ rw (left, greater) (sym (append_assoc (take i es) (e ∷ []) (insert_entry key_cmp (drop (i + 1) es) k v)))
        ∙ ap (λ xs. xs ++ insert_entry key_cmp (drop (i + 1) es) k v) (sym (first_more es i e short read))

pub goes_last : (all es : List Pair) (i : ℕ) (k : Bor Text) (v : Written) → GoesAfter k v i es all → length es ≤ i
    → es ++ (k, v) ∷ [] ≡ insert_entry key_cmp all k v
goes_last all es i k v passed end = sym (passed ∙ rw (take_all i es end, drop_all i es end) refl)

-- WHAT IS SAID of pairs among which one was inserted
pub view_put : (new all : List Pair) (k : Bor Text) (v : Written) → new ≡ insert_entry key_cmp all k v
    → pairs_view new ≡ put k.now (written_view v) (pairs_view all)
view_put new all k v is = ap pairs_view is ∙ pairs_view-insert all k v

pub ascends_put : (new all : List Pair) (k : Bor Text) (v : Written) → new ≡ insert_entry key_cmp all k v
    → ascends v ≡ true → pairs_ascend all ≡ true → pairs_ascend new ≡ true
ascends_put new all k v is own h = ap pairs_ascend is ∙ insert_ascends all k v own h
