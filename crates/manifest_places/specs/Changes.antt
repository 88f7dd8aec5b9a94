-- What a change at a path makes of a document, and what several changes make of it.
use Rattle.std.specs.Prelude.{◌≡◌, Bool, ℕ, zero, suc, [], ◌∷◌, List, Option, Some, None, is_some, option_map, option_and_then, if◌then◌else◌, string_bytes}
use Rattle.std.specs.Cmp.Lexicographic.{slice_cmp}
use Rattle.std.specs.Ordering.{match_ordering, nat_cmp}
use Rattle.toml.specs.Data.{Data, array, table, as_array, as_table, Items, no_items, item, Members, no_members, member, same_key, get_member}
use Rattle.toml.specs.View.{view}
use Rattle.manifest_places.specs.Paths.{Text, key, index, Path, path_of}
use Rattle.manifest_places.specs.declared.changes.Change.{Change as CodeChange}
use Rattle.manifest_places.specs.declared.changes.Change.TheVariants.{Set, Insert, Remove, Rename, InsertItem, RemoveItem}
use Rattle.manifest_places.specs.declared.changes.ChangeAt.{ChangeAt as CodeChangeAt}

-- the entries, with the value of the first one at this key changed as f says
abbrev pub change_member : Text → (Data → Option Data) → Members → Option Members
change_member k f no_members = None
change_member k f (member l d ms) =
    if same_key k l then option_map (λ e. member l e ms) (f d)
    else option_map (λ more. member l d more) (change_member k f ms)

-- the items, with the one at this index changed as f says
abbrev pub change_item : ℕ → (Data → Option Data) → Items → Option Items
change_item n f no_items = None
change_item zero f (item d ds) = option_map (λ e. item e ds) (f d)
change_item (suc n) f (item d ds) = option_map (λ more. item d more) (change_item n f ds)

-- a change of the entries of a table, and of the items of an array
abbrev pub in_table : (Members → Option Members) → Data → Option Data
in_table f d = option_and_then (λ ms. option_map table (f ms)) (as_table d)

abbrev pub in_array : (Items → Option Items) → Data → Option Data
in_array f d = option_and_then (λ ds. option_map array (f ds)) (as_array d)

-- the data with the value at the path changed as f says, and nothing else changed
abbrev pub changed_at : Path → (Data → Option Data) → Data → Option Data
changed_at [] f d = f d
changed_at (key k ∷ p) f d = in_table (change_member k (changed_at p f)) d
changed_at (index i ∷ p) f d = in_array (change_item i (changed_at p f)) d

-- the data with e at the path, where something is
abbrev pub with_value : Path → Data → Data → Option Data
with_value p e d = changed_at p (λ _. Some e) d

-- what is done at one place: to a value, to the entries of a table, or to the items of an array
pub data Change : Type 0 where
  set : Data → Change
  insert : Text → Data → Change
  remove : Text → Change
  rename : Text → Text → Change
  insert_item : ℕ → Data → Change
  remove_item : ℕ → Change

-- the entries without the one at this key; there is one
abbrev pub without_member : Text → Members → Option Members
without_member k no_members = None
without_member k (member l d ms) =
    if same_key k l then Some ms else option_map (λ more. member l d more) (without_member k ms)

-- the entries with e at this key: in the place of what is there, or at its place in the order of the keys
abbrev pub put_member : Text → Data → Members → Members
put_member k e no_members = member k e no_members
put_member k e (member l d ms) =
    match_ordering (slice_cmp nat_cmp k l) (member k e (member l d ms)) (member l e ms)
    (member l d (put_member k e ms))

-- the entries with one more; there was none at this key
abbrev pub with_member : Text → Data → Members → Option Members
with_member k e ms = if is_some (get_member k ms) then None else Some (put_member k e ms)

-- the entries with the value at one key now at another, at which there was none
abbrev pub with_name : Text → Text → Members → Option Members
with_name k l ms =
    option_and_then (λ d. option_and_then (with_member l d) (without_member k ms)) (get_member k ms)

-- the items with e at this index, before what is there or after the last one
abbrev pub with_item : ℕ → Data → Items → Option Items
with_item zero e ds = Some (item e ds)
with_item (suc n) e no_items = None
with_item (suc n) e (item d ds) = option_map (λ more. item d more) (with_item n e ds)

-- the items without the one at this index; there is one
abbrev pub without_item : ℕ → Items → Option Items
without_item n no_items = None
without_item zero (item d ds) = Some ds
without_item (suc n) (item d ds) = option_map (λ more. item d more) (without_item n ds)

-- what the change makes of the value that it is made at, where it can be made there
abbrev pub changed : Change → Data → Option Data
changed (set e) d = Some e
changed (insert k e) d = in_table (with_member k e) d
changed (remove k) d = in_table (without_member k) d
changed (rename k l) d = in_table (with_name k l) d
changed (insert_item i e) d = in_array (with_item i e) d
changed (remove_item i) d = in_array (without_item i) d

-- the data with the change made at the path, and nothing else changed
abbrev pub with_change : Path → Change → Data → Option Data
with_change p c d = changed_at p (changed c) d

-- a change and its path
abbrev pub ChangeAt : Type 0
ChangeAt = Path × Change

-- the data with each change made, one after the other
abbrev pub with_changes : List ChangeAt → Data → Option Data
with_changes [] d = Some d
with_changes (c ∷ cs) d = option_and_then (with_changes cs) (with_change c.0 c.1 d)

-- the change that the code's stands for, alone and with its path
abbrev pub change_of : CodeChange → Change
change_of (Set v) = set (view v)
change_of (Insert k v) = insert (string_bytes k) (view v)
change_of (Remove k) = remove (string_bytes k)
change_of (Rename k l) = rename (string_bytes k) (string_bytes l)
change_of (InsertItem i v) = insert_item i (view v)
change_of (RemoveItem i) = remove_item i

abbrev pub change_at_of : CodeChangeAt → ChangeAt
change_at_of c = (path_of c.path.items, change_of c.change)

-- what was made of a value in place, where that could be done
abbrev pub Makes : {A : Type 0} → Option A → Bool → A → Type 0
Makes expected done made = expected ≡ (if done then Some made else None)
