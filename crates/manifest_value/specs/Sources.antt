-- What is read, and what stands in the rows that are read, as the definitions see it.
use Rattle.manifest_schema.specs.Prelude.{iter_rest, Data, table, Members, no_members, member, view, table_view, members_view, Value, Text, Slot, absent, one, clash}
use Rattle.std.specs.Prelude.{◌≡◌, ℕ, zero, suc, List, [], ◌∷◌, Option, MatchOption, string_bytes}
use Rattle.std.specs.Vec.Iter.{into_iter_items}
use Rattle.manifest_value.specs.declared.entries.Entries.{Entries}
use Rattle.manifest_value.specs.declared.entries.Key.{Key}
use Rattle.manifest_value.specs.declared.items.Items.{Items}
use Rattle.manifest_value.specs.declared.row_slots.RowSlot.{RowSlot}
use Rattle.manifest_value.specs.declared.source.Source.{Source}
use Rattle.manifest_value.specs.declared.source.TableSource.{TableSource}

-- the value that is read
abbrev pub source_value : Source → Value
source_value (Source.Borrowed v) = v.now
source_value (Source.Owned v) = v

abbrev pub source_view : Source → Data
source_view s = view (source_value s)

-- the entries of the table that is read
abbrev pub members_of : TableSource → Members
members_of (TableSource.Borrowed t) = table_view t.now
members_of (TableSource.Owned t) = table_view t

-- the table that is read, as a value
abbrev pub table_source : TableSource → Data
table_source t = table (members_of t)

-- what stands in a row, as the definitions have it
abbrev pub row_view : RowSlot → Slot
row_view RowSlot.Absent = absent
row_view (RowSlot.One s v) = one s.now (source_view v)
row_view RowSlot.Clash = clash

-- ENTRIES
-- the text of a key
abbrev pub key_view : Key → Text
key_view (Key.Borrowed s) = s.now
key_view (Key.Owned s) = string_bytes s

-- entries that are read, in a list
abbrev pub rest_view : List (Key × Source) → Members
rest_view [] = no_members
rest_view (e ∷ es) = member (key_view e.0) (source_view e.1) (rest_view es)

-- the entries that are still to come
abbrev pub entries_view : Entries → Members
entries_view (Entries.Borrowed it) = members_view it
entries_view (Entries.Owned it) = members_view it
entries_view (Entries.Rest it) = rest_view (into_iter_items it)

-- how many entries there are
abbrev pub how_many : Members → ℕ
how_many no_members = zero
how_many (member k d ms) = suc (how_many ms)

-- the first of the entries is given, and the others are left; or there is none
abbrev pub gives_entry : Entries → Option (Key × Source) → Entries → Type 0
gives_entry s r t =
    MatchOption r (entries_view s ≡ no_members)
    (λ e. entries_view s ≡ member (key_view e.0) (source_view e.1) (entries_view t))

-- ITEMS
-- the items that are still to come
abbrev pub items_left : Items → List Value
items_left (Items.Borrowed it) = iter_rest it
items_left (Items.Owned it) = into_iter_items it
