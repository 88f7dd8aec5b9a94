-- Calls of a reader or a writer at the items of a list and the entries of a map, one after the other.
use Rattle.manifest_schema.specs.Prelude.{take-append-drop, common_steps, insert_entry, AllZip, keys_of, string_cmp, Value, Path, Cause as SchemaCause, Faults, under, index, key}
use Rattle.std.proofs.Common.{◌≡◌, ℕ, Result, IfOk, IfErr, String, Global, string_bytes, List, [], ◌∷◌, ◌++◌, length, take, drop, get_or, ◌<◌, ◌+◌, Ok, Err, refl, sym, ap, ◌∙◌, arith}
use Rattle.std.proofs.lemmas.List.{take_more, drop_more}
use Rattle.std.specs.List.Sorted.{IsStrictlySortedBy}
use Rattle.manifest_value.specs.Calls.{ReaderAnswers, Refused, ItemsGiven, EntriesGiven, ItemRefused, EntryRefused}
use Rattle.manifest_fault.specs.Faults.{FaultIn}
use Rattle.manifest_fault.specs.declared.fault.ReadFault.{ReadFault}
use Rattle.manifest_fault.specs.declared.fault.ReadFault.TheVariants.{Schema, Memory}
use Rattle.manifest_fault.proofs.Under.{fault_weaker}
use Rattle.manifest_value.proofs.EntryLemmas.{texts, insert_last}

-- the result of a call is its answer, or a fault with which the value is refused
pub answer_given : {X Y E : Type 0} (R : X → Result Y E → Type 0) (x : X) (r : Result Y E) → R x r
    → IfOk r (λ y. R x (Ok y))
answer_given R x (Ok y) h = h
answer_given R x (Err e) h = tt

pub fault_given : {T : Type 0} (R : ReaderAnswers T) (v : Value) (r : Result T ReadFault) → R v r
    → IfErr r (FaultIn (Refused R v))
fault_given R v (Ok x) h = tt
fault_given R v (Err (Schema f)) h = record { fault = f; answer = h; path = refl; cause = refl }
fault_given R v (Err (Memory e)) h = tt

-- what is refused with a fault of P is refused with one of Q
pub refused_weaker : {X : Type 0} (P Q : Faults) (r : Result X ReadFault) → ((p : Path) (c : SchemaCause) → P p c
    → Q p c) → IfErr r (FaultIn P) → IfErr r (FaultIn Q)
refused_weaker P Q (Ok x) w h = tt
refused_weaker P Q (Err f) w h = fault_weaker P Q f w h

-- two more, one of each
pub all_zip-push : {A B : Type 0} (R : A → B → Type 0) (xs : List A) (ys : List B) (x : A) (y : B) → AllZip R xs ys
    → R x y → AllZip R (xs ++ x ∷ []) (ys ++ y ∷ [])
all_zip-push R [] [] x y h r = (r, tt)
all_zip-push R [] (b ∷ ys) x y h r = absurd h
all_zip-push R (a ∷ xs) [] x y h r = absurd h
all_zip-push R (a ∷ xs) (b ∷ ys) x y h r = (h.0, all_zip-push R xs ys x y h.1 r)

-- one more result
pub items_given-more : {X Y E : Type 0} (R : X → Result Y E → Type 0) (xs : List X) (i : ℕ) (x : X) (ys : List Y)
    (y : Y)
    → i < length xs → x ≡ get_or xs i x → ItemsGiven R (take i xs) ys → R x (Ok y) → ItemsGiven R (take (i + 1) xs)
    (ys ++ y ∷ [])
items_given-more R xs i x ys y b e h r =
    let more : take (i + 1) xs ≡ take i xs ++ x ∷ [] = take_more xs i x b ∙ ap (λ w. take i xs ++ w ∷ []) (sym e) in
    rw more (all_zip-push (λ w z. R w (Ok z)) (take i xs) ys x y h r)

-- the list around its item at i
around : {X : Type 0} (xs : List X) (i : ℕ) (x : X) → i < length xs → x ≡ get_or xs i x → xs ≡ take i xs ++ x
    ∷ drop (i + 1) xs
around xs i x b e = sym (take-append-drop i xs) ∙ ap (λ l. take i xs ++ l) (drop_more xs i x b
    ∙ ap (λ w. w ∷ drop (i + 1) xs) (sym e))

-- a fault of an item, with those before it given
pub item_refused : {T : Type 0} (R : ReaderAnswers T) (vs : List Value) (i : ℕ) (v : Value) (xs : List T)
    (f : ReadFault)
    → i < length vs → v ≡ get_or vs i v → ItemsGiven R (take i vs) xs → FaultIn (under (index i) (Refused R v)) f
    → FaultIn (ItemRefused R vs) f
item_refused R vs i v xs f b e h r =
    let long : length (take i vs) ≡ i = grind (arith, common_steps) in
    fault_weaker (under (index i) (Refused R v)) (ItemRefused R vs) f (λ p c q. record {
      before = take i vs;
      item =
          v;
      after = drop (i + 1) vs;
      whole = around vs i v b e;
      answers = xs;
      given = h;
      refused = rw long q;
    }) r

-- the keys are those of the entries
same_texts : {X Y E : Type 0} (R : X → Result Y E → Type 0) (es : List (String Global × X))
    (gs : List (String Global × Y)) → EntriesGiven R es gs → texts gs ≡ texts es
same_texts R [] [] h = refl
same_texts R [] (g ∷ gs) h = absurd h
same_texts R (e ∷ es) [] h = absurd h
same_texts R (e ∷ es) (g ∷ gs) h = rw (h.0.0, same_texts R es gs h.1)

-- one more result, with its key
pub entries_given-last : {X Y E : Type 0} (R : X → Result Y E → Type 0) (done : List (String Global × X))
    (e : String Global × X) (left : List (String Global × X)) (gs : List (String Global × Y)) (name : String Global)
    (y : Y)
    → IsStrictlySortedBy string_cmp (keys_of (done ++ e ∷ left)) → EntriesGiven R done gs
    → string_bytes name ≡ string_bytes e.0 → R e.1 (Ok y)
    → EntriesGiven R (done ++ e ∷ []) (insert_entry string_cmp gs name y)
entries_given-last R done e left gs name y sorted h named r =
    rw (insert_last gs done e left name y (same_texts R done gs h) named sorted)
    (all_zip-push (λ d g. (string_bytes g.0 ≡ string_bytes d.0) × R d.1 (Ok g.1)) done gs e (name, y) h (named, r))

-- a fault of an entry, with those before it given
pub entry_refused : {T : Type 0} (R : ReaderAnswers T) (es before : List (String Global × Value)) (e : String Global
    × Value) (after : List (String Global × Value)) (xs : List (String Global × T)) (f : ReadFault)
    → es ≡ before ++ e ∷ after → EntriesGiven R before xs → FaultIn (under (key (string_bytes e.0)) (Refused R e.1)) f
    → FaultIn (EntryRefused R es) f
entry_refused R es before e after xs f whole h r =
    fault_weaker (under (key (string_bytes e.0)) (Refused R e.1)) (EntryRefused R es) f
    (λ p c q. record {
      before = before;
      entry = e;
      after = after;
      whole = whole;
      answers = xs;
      given = h;
      refused =
          q;
    }) r
