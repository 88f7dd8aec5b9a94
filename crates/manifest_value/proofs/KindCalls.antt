-- Calls of a writer of a kind: the list of what it gives is that of the kind, and so are the entries.
use Rattle.manifest_schema.specs.Prelude.{AllocError, array, view, items_view, members_view, table_view, Value, Kind, written_items, list_of, written_entries}
use Rattle.std.proofs.Common.{◌≡◌, Result, Ok, Err, IfOk, BTreeMap, String, Global, List, [], ◌∷◌, map, refl, ap, ◌∙◌}
use Rattle.manifest_value.specs.Calls.{WriterAnswers, ItemsGiven, EntriesGiven, ListWritten}
use Rattle.manifest_value.specs.Entries.{entries_content}

module _ {A X : Type 0} (K : Kind A) (content : X → A) (W : WriterAnswers X) where
  items_written : (xs : List X) (vs : List Value) → ItemsGiven W xs vs → ((x : X) (v : Value) → W x (Ok v)
      → view v ≡ K.written (content x)) → items_view vs ≡ written_items K (map content xs)
  items_written [] [] h is = refl
  items_written [] (v ∷ vs) h is = absurd h
  items_written (x ∷ xs) [] h is = absurd h
  items_written (x ∷ xs) (v ∷ vs) h is = rw (is x v h.0, items_written xs vs h.1 is)

  -- a list of what the writer gives
  pub list_writes : (r : Result Value AllocError) (xs : List X) → IfOk r (ListWritten W xs)
      → ((x : X) (v : Value) → W x (Ok v) → view v ≡ K.written (content x))
      → IfOk r (λ v. view v ≡ (list_of K).written (map content xs))
  list_writes (Ok v) xs h is = h.is ∙ ap array (items_written xs h.items h.given is)
  list_writes (Err e) xs h is = tt

  entries_written : (es : List (String Global × X)) (gs : List (String Global × Value)) → EntriesGiven W es gs
      → ((x : X) (v : Value) → W x (Ok v) → view v ≡ K.written (content x))
      → members_view gs ≡ written_entries K (entries_content content es)
  entries_written [] [] h is = refl
  entries_written [] (g ∷ gs) h is = absurd h
  entries_written (e ∷ es) [] h is = absurd h
  entries_written (e ∷ es) (g ∷ gs) h is = rw (h.0.0, is e.1 g.1 h.0.1, entries_written es gs h.1 is)

  -- a table of what the writer gives
  pub table_writes : (r : Result (BTreeMap (String Global) Value) AllocError) (es : List (String Global × X))
      → IfOk r (λ m. EntriesGiven W es m.entries)
      → ((x : X) (v : Value) → W x (Ok v) → view v ≡ K.written (content x))
      → IfOk r (λ m. table_view m ≡ written_entries K (entries_content content es))
  table_writes (Ok m) es h is = entries_written es m.entries h is
  table_writes (Err e) es h is = tt
