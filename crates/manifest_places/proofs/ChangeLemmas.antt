-- A change of a map's entries or of an array's items, next to the change of the data.
use Rattle.std.proofs.Common.{◌≡◌, ℕ, zero, suc, ◌<◌, ◌≤◌, Bool, true, false, cond, List, [], ◌∷◌, length, get_or, set, Option, Some, None, is_some, option_map, Ordering, Less, Equal, Greater, String, Global, string_bytes, nat_cmp, is_eq, refl, sym, ap, ◌∙◌, arith, inl, inr}
use Rattle.std.proofs.lemmas.Bool.{cases_Bool}
use Rattle.std.proofs.lemmas.Option.{none-some, same_Some}
use Rattle.std.specs.Cmp.Lexicographic.{slice_cmp}
use Rattle.std.specs.Map.{lookup, set_value, remove_entry}
use Rattle.std.specs.List.{insert, remove}
use Rattle.std.specs.String.{string_cmp}
use Rattle.std.specs.Ordering.{match_ordering}
use Rattle.std.specs.BTreeMap.{is_at, insert_entry}
use Rattle.toml.specs.Data.{Data, member, get_member}
use Rattle.toml.specs.View.{view, items_view, members_view}
use Rattle.toml.specs.declared.value.Value.{Value}
use Rattle.toml.proofs.Views.{Entry, view-lookup}
use Rattle.manifest_places.specs.Paths.{Text}
use Rattle.manifest_places.specs.Changes.{change_member, change_item, put_member, with_member, without_member, with_item, without_item}

-- how a key compares with the text
abbrev pub at_text : Text → String Global → Ordering
at_text k x = slice_cmp nat_cmp k (string_bytes x)

some_mapped : {A B : Type 0} (f : A → B) (o : Option A) → is_some (option_map f o) ≡ is_some o
some_mapped f None = refl
some_mapped f (Some x) = refl

-- whether there is an entry
held : (k : Text) (es : List Entry) → is_some (get_member k (members_view es)) ≡ is_some (lookup (is_at (at_text k)) es)
held k es = ap is_some (sym (view-lookup k es)) ∙ some_mapped view (lookup (is_at (at_text k)) es)

-- the entries without one
mapped_choice : {A B : Type 0} (f : A → B) (b : Bool) (x : A)
    → option_map f (cond b (Some x) None) ≡ cond b (Some (f x)) None
mapped_choice f true x = refl
mapped_choice f false x = refl

pub without_entry : (k : Text) (es : List Entry)
    → without_member k (members_view es)
    ≡ cond (is_some (lookup (is_at (at_text k)) es))
    (Some (members_view (remove_entry (is_at (at_text k)) es))) None
without_entry k [] = refl
without_entry k (e ∷ es) =
    elim (cases_Bool (is_eq (at_text k e.0))) [
      | inl same ↦ rw same refl
      | inr other ↦
          rw (other, without_entry k es)
          (mapped_choice (λ more. member (string_bytes e.0) (view e.1) more)
          (is_some (lookup (is_at (at_text k)) es)) (members_view (remove_entry (is_at (at_text k)) es)))
    ]

-- the entry that is put in
put_at : (o : Ordering) (k : String Global) (v : Value) (e : Entry) (es : List Entry)
    → put_member (string_bytes k) (view v) (members_view es) ≡ members_view (insert_entry string_cmp es k v)
    → match_ordering o (member (string_bytes k) (view v) (member (string_bytes e.0) (view e.1) (members_view es)))
    (member (string_bytes e.0) (view v) (members_view es))
    (member (string_bytes e.0) (view e.1) (put_member (string_bytes k) (view v) (members_view es)))
    ≡ members_view (match_ordering o ((k, v) ∷ e ∷ es) ((e.0, v) ∷ es) (e ∷ insert_entry string_cmp es k v))
put_at Less k v e es ih = refl
put_at Equal k v e es ih = refl
put_at Greater k v e es ih = rw ih refl

put_entry : (k : String Global) (v : Value) (es : List Entry)
    → put_member (string_bytes k) (view v) (members_view es) ≡ members_view (insert_entry string_cmp es k v)
put_entry k v [] = refl
put_entry k v (e ∷ es) = put_at (string_cmp k e.0) k v e es (put_entry k v es)

pub with_entry : (k : String Global) (v : Value) (es : List Entry)
    → is_some (lookup (is_at (at_text (string_bytes k))) es) ≡ false
    → with_member (string_bytes k) (view v) (members_view es) ≡ Some (members_view (insert_entry string_cmp es k v))
with_entry k v es none = rw (held (string_bytes k) es, none, put_entry k v es) refl

pub no_second_entry : (k : Text) (d : Data) (es : List Entry) → is_some (lookup (is_at (at_text k)) es) ≡ true
    → with_member k d (members_view es) ≡ None
no_second_entry k d es some = rw (held k es, some) refl

-- the entry that is written
pub changed_entry : (k : Text) (f : Data → Option Data) (es : List Entry) (v w : Value)
    → lookup (is_at (at_text k)) es ≡ Some v → f (view v) ≡ Some (view w)
    → change_member k f (members_view es) ≡ Some (members_view (set_value (is_at (at_text k)) es w))
changed_entry k f [] v w h made = absurd (none-some v h)
changed_entry k f (e ∷ es) v w h made =
    elim (cases_Bool (is_eq (at_text k e.0))) [
      | inl same ↦
          let it : e.1 ≡ v = same_Some e.1 v (rw same at h) in
          rw (same, it, made)
      | inr other ↦ rw (other, changed_entry k f es v w (rw other at h) made)
    ]

-- no entry is written where none is there, or f makes nothing of it
pub no_entry : (k : Text) (f : Data → Option Data) (es : List Entry) → lookup (is_at (at_text k)) es ≡ None
    → change_member k f (members_view es) ≡ None
no_entry k f [] h = refl
no_entry k f (e ∷ es) h =
    elim (cases_Bool (is_eq (at_text k e.0))) [
      | inl same ↦ absurd (none-some e.1 (sym (rw same at h)))
      | inr other ↦ rw (other, no_entry k f es (rw other at h))
    ]

pub refused_entry : (k : Text) (f : Data → Option Data) (es : List Entry) (v : Value)
    → lookup (is_at (at_text k)) es ≡ Some v → f (view v) ≡ None
    → change_member k f (members_view es) ≡ None
refused_entry k f [] v h made = refl
refused_entry k f (e ∷ es) v h made =
    elim (cases_Bool (is_eq (at_text k e.0))) [
      | inl same ↦
          let it : e.1 ≡ v = same_Some e.1 v (rw same at h) in
          rw (same, it, made)
      | inr other ↦ rw (other, refused_entry k f es v (rw other at h) made)
    ]

-- the item that is written
pub changed_item : (f : Data → Option Data) (xs : List Value) (i : ℕ) (v w : Value) → i < length xs
    → v ≡ get_or xs i v → f (view v) ≡ Some (view w)
    → change_item i f (items_view xs) ≡ Some (items_view (set xs i w))
changed_item f [] i v w lt is made = absurd (omega arith)
changed_item f (x ∷ xs) zero v w lt is made = rw (← is, made)
changed_item f (x ∷ xs) (suc i) v w lt is made = rw (changed_item f xs i v w (omega arith) is made)

-- no item is written where none is there, or f makes nothing of it
pub no_item_there : (f : Data → Option Data) (xs : List Value) (i : ℕ) → length xs ≤ i
    → change_item i f (items_view xs) ≡ None
no_item_there f [] i le = refl
no_item_there f (x ∷ xs) zero le = absurd (omega arith)
no_item_there f (x ∷ xs) (suc i) le = rw (no_item_there f xs i (omega arith))

pub refused_item : (f : Data → Option Data) (xs : List Value) (i : ℕ) (v : Value) → i < length xs → v ≡ get_or xs i v
    → f (view v) ≡ None
    → change_item i f (items_view xs) ≡ None
refused_item f [] i v lt is made = refl
refused_item f (x ∷ xs) zero v lt is made = rw (← is, made)
refused_item f (x ∷ xs) (suc i) v lt is made = rw (refused_item f xs i v (omega arith) is made)

-- the item that is put in
pub with_one : (xs : List Value) (i : ℕ) (v : Value) → i ≤ length xs
    → with_item i (view v) (items_view xs) ≡ Some (items_view (insert xs i v))
with_one xs zero v le = refl
with_one [] (suc i) v le = absurd (omega arith)
with_one (x ∷ xs) (suc i) v le = rw (with_one xs i v (omega arith))

pub with_none : (xs : List Value) (i : ℕ) (v : Value) → length xs < i → with_item i (view v) (items_view xs) ≡ None
with_none xs zero v lt = absurd (omega arith)
with_none [] (suc i) v lt = refl
with_none (x ∷ xs) (suc i) v lt = rw (with_none xs i v (omega arith))

-- the item that is taken out
pub without_one : (xs : List Value) (i : ℕ) → i < length xs
    → without_item i (items_view xs) ≡ Some (items_view (remove xs i))
without_one [] i lt = absurd (omega arith)
without_one (x ∷ xs) zero lt = refl
without_one (x ∷ xs) (suc i) lt = rw (without_one xs i (omega arith))

pub without_none : (xs : List Value) (i : ℕ) → length xs ≤ i → without_item i (items_view xs) ≡ None
without_none [] i le = refl
without_none (x ∷ xs) zero le = absurd (omega arith)
without_none (x ∷ xs) (suc i) le = rw (without_none xs i (omega arith))
