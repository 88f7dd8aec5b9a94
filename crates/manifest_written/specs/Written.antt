-- What is written, as the data that it stands for, and that its keys ascend.
use Rattle.manifest_schema.specs.Prelude.{Data, string, integer, boolean, array, table, Items, Members, no_members, member, view, Text, slice_cmp}
use Rattle.std.specs.Prelude.{List, [], ◌∷◌, map, Bool, true, ◌&&◌}
use Rattle.std.specs.Borrow.{Bor}
use Rattle.std.specs.Ordering.{nat_cmp, is_lt}
use Rattle.toml.specs.View.{items_of}
use Rattle.manifest_written.specs.declared.written.Written.{Written, fold-Written}
use Rattle.manifest_written.specs.declared.written.Written.TheOpen.{Written-F}

-- THE DATA
-- pairs of a key and a value as the members of a table
abbrev pub members_of : List (Bor Text × Data) → Members
members_of [] = no_members
members_of (e ∷ es) = member e.0.now e.1 (members_of es)

-- one level, with all inside already seen as data
abbrev pub written_step : Written-F Data → Data
written_step (Written-F.Text s) = string s.now
written_step (Written-F.Integer z) = integer z
written_step (Written-F.Boolean b) = boolean b
written_step (Written-F.List v) = array (items_of v.items)
written_step (Written-F.Table v) = table (members_of v.items)
written_step (Written-F.Value v) = view v.now

-- the data that is written
abbrev pub written_view : Written → Data
written_view = fold-Written Data written_step

-- the data of some items, and of some pairs of a key and a value
abbrev pub list_view : List Written → Items
list_view ws = items_of (map written_view ws)

abbrev pub pairs_view : List (Bor Text × Written) → Members
pairs_view es = members_of (map (λ e. (e.0, written_view e.1)) es)

-- THE KEYS ASCEND
-- the key is less than the first one of these
abbrev pub is_below : Text → List (Bor Text × Bool) → Bool
is_below k [] = true
is_below k (e ∷ es) = is_lt (slice_cmp nat_cmp k e.0.now)

-- the keys of a table ascend, and those inside each of its values
abbrev pub keys_ascend : List (Bor Text × Bool) → Bool
keys_ascend [] = true
keys_ascend (e ∷ es) = (is_below e.0.now es && e.1) && keys_ascend es

-- all of these hold
abbrev pub all_hold : List Bool → Bool
all_hold [] = true
all_hold (b ∷ bs) = b && all_hold bs

-- one level, by what holds of all inside
abbrev pub ascend_step : Written-F Bool → Bool
ascend_step (Written-F.List v) = all_hold v.items
ascend_step (Written-F.Table v) = keys_ascend v.items
ascend_step _ = true

-- the keys of each table in it ascend
abbrev pub ascends : Written → Bool
ascends = fold-Written Bool ascend_step

-- those of each of some items, and of a table of some pairs
abbrev pub list_ascends : List Written → Bool
list_ascends ws = all_hold (map ascends ws)

abbrev pub pairs_ascend : List (Bor Text × Written) → Bool
pairs_ascend es = keys_ascend (map (λ e. (e.0, ascends e.1)) es)
