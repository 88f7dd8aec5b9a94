-- Lemmas on what is written of a list, of a map and of a row.
use Rattle.manifest_schema.specs.Prelude.{Kind, written_items, written_entries, string_cmp, keys_of}
use Rattle.std.proofs.Common.{◌≡◌, ℕ, ◌+◌, ◌<◌, List, [], ◌∷◌, ◌++◌, length, take, map, get_or, String, Global, string_bytes, refl, sym, ap, ◌∙◌}
use Rattle.std.specs.List.Sorted.{IsStrictlySortedBy}
use Rattle.toml.specs.Data.{item, push_item}
use Rattle.manifest_written.specs.Written.{written_view, list_view, pairs_view}
use Rattle.manifest_written.specs.declared.written.Written.{Written}
use Rattle.manifest_written.proofs.WrittenLemmas.{Pair, IsAbove, first_more, items_pushed}
use Rattle.manifest_value.specs.Entries.{entries_content}
use Rattle.manifest_value.proofs.EntryLemmas.{key_below}

module _ {A X : Type 0} (K : Kind A) (content : X → A) where
  kind_pushed : (xs : List X) (x : X) → written_items K (map content (xs ++ x ∷ []))
      ≡ push_item (written_items K (map content xs)) (K.written (content x))
  kind_pushed [] x = refl
  kind_pushed (y ∷ xs) x = ap (item (K.written (content y))) (kind_pushed xs x)

  -- one more item of a list
  pub list_more : (xs : List X) (i : ℕ) (x : X) (ws : List Written) (w : Written) → i < length xs → x ≡ get_or xs i x
      → list_view ws ≡ written_items K (map content (take i xs)) → written_view w ≡ K.written (content x)
      → list_view (ws ++ w ∷ []) ≡ written_items K (map content (take (i + 1) xs))
  list_more xs i x ws w short read same is =
      items_pushed ws w ∙ rw (same, is) (sym (kind_pushed (take i xs) x))
      ∙ ap (λ ys. written_items K (map content ys)) (sym (first_more xs i x short read))

  -- the pairs are what is written of some entries of a map
  abbrev pub AreOf : List Pair → List (String Global × X) → Type 0
  AreOf [] [] = Unit {0}
  AreOf (p ∷ ps) (e ∷ es) =
      (p.0.now ≡ string_bytes e.0) × (written_view p.1 ≡ K.written (content e.1)) × AreOf ps es
  AreOf _ _ = ⊥

  pub view_of_entries : (ps : List Pair) (es : List (String Global × X)) → AreOf ps es
      → pairs_view ps ≡ written_entries K (entries_content content es)
  view_of_entries [] [] h = refl
  view_of_entries [] (e ∷ es) h = absurd h
  view_of_entries (p ∷ ps) [] h = absurd h
  view_of_entries (p ∷ ps) (e ∷ es) h = rw (h.0, h.1, view_of_entries ps es h.2)

  pub entries_last : (ps : List Pair) (es : List (String Global × X)) (p : Pair) (e : String Global × X) → AreOf ps es
      → p.0.now ≡ string_bytes e.0 → written_view p.1 ≡ K.written (content e.1) → AreOf (ps ++ p ∷ []) (es ++ e ∷ [])
  entries_last [] [] p e h named is = (named, is, tt)
  entries_last [] (d ∷ es) p e h named is = absurd h
  entries_last (q ∷ ps) [] p e h named is = absurd h
  entries_last (q ∷ ps) (d ∷ es) p e h named is = (h.0, h.1, entries_last ps es p e h.2 named is)

  -- the key of the next entry is above those before it
  pub next_above : (ps : List Pair) (es : List (String Global × X)) (e : String Global × X)
      (more : List (String Global × X)) → AreOf ps es → IsStrictlySortedBy string_cmp (keys_of (es ++ e ∷ more))
      → IsAbove (string_bytes e.0) ps
  unfolding IsStrictlySortedBy
  next_above [] es e more h sorted = tt
  next_above (p ∷ ps) [] e more h sorted = absurd h
  next_above (p ∷ ps) (d ∷ es) e more h sorted =
      (rw h.0 (key_below d es e more sorted.0), next_above ps es e more h.2 sorted.1)
