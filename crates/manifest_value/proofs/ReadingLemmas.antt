-- Entries that are read of the first members of a table: their keys ascend as the table's do.
use Rattle.manifest_schema.specs.Prelude.{slice_cmp, AllByRecursion, keys_of, string_cmp, Data, Items, no_items, item, Members, no_members, member, Value, members_view, Text, is_among, without, Kind, Entries, reads_items, reads_entries}
use Rattle.std.proofs.Common.{◌≡◌, Bool, true, false, List, [], ◌∷◌, String, Global, Less, nat_cmp, string_bytes, if◌then◌else◌, subst, ◌++◌, map, refl}
use Rattle.std.specs.List.Sorted.{IsStrictlySortedBy}
use Rattle.manifest_value.specs.Entries.{entries_content, reads_first}
use Rattle.manifest_value.specs.Walks.{IsBelow, Ascend}

-- one more entry is read
pub reads_more : {A X : Type 0} (K : Kind A) (f : X → A) (ms : Members) (es : List (String Global × X))
    (name : String Global) (x : X) (d : Data) (rest : Members)
    → reads_first K ms (entries_content f es) (member (string_bytes name) d rest) → K.reads d (f x)
    → reads_first K ms (entries_content f (es ++ (name, x) ∷ [])) rest
reads_more K f ms [] name x d rest h r = rw h (refl, r, refl)
reads_more K f no_members (e ∷ es) name x d rest h r = absurd h
reads_more K f (member k c ms) (e ∷ es) name x d rest h r = (h.0, h.1, reads_more K f ms es name x d rest h.2 r)

-- the contents are read of the first items, and the rest is left
abbrev pub reads_first_items : {A : Type 0} → Kind A → Items → List A → Items → Type 0
reads_first_items K ds [] rest = ds ≡ rest
reads_first_items K no_items (x ∷ xs) rest = ⊥
reads_first_items K (item d ds) (x ∷ xs) rest = K.reads d x × reads_first_items K ds xs rest

-- one more item is read
pub items_more : {A X : Type 0} (K : Kind A) (f : X → A) (ds : Items) (xs : List X) (x : X) (d : Data) (rest : Items)
    → reads_first_items K ds (map f xs) (item d rest) → K.reads d (f x) → reads_first_items K ds (map f (xs ++ x ∷ []))
    rest
items_more K f ds [] x d rest h r = rw h (r, refl)
items_more K f no_items (y ∷ xs) x d rest h r = absurd h
items_more K f (item c ds) (y ∷ xs) x d rest h r = (h.0, items_more K f ds xs x d rest h.1 r)

pub no_item_left : {A : Type 0} (K : Kind A) (ds : Items) (xs : List A) → reads_first_items K ds xs no_items
    → reads_items K ds xs
no_item_left K ds [] h = rw h tt
no_item_left K no_items (x ∷ xs) h = absurd h
no_item_left K (item d ds) (x ∷ xs) h = (h.0, no_item_left K ds xs h.1)

-- where nothing is left, all are read
pub none_left : {A : Type 0} (K : Kind A) (ms : Members) (es : Entries A) → reads_first K ms es no_members
    → reads_entries K ms es
none_left K ms [] h = rw h tt
none_left K no_members (e ∷ es) h = absurd h
none_left K (member k d ms) (e ∷ es) h = (h.0, h.1, none_left K ms es h.2)

below_view : (k : String Global) (es : List (String Global × Value)) → AllByRecursion (λ y. string_cmp k y ≡ Less)
    (keys_of es) → IsBelow (string_bytes k) (members_view es)
below_view k [] h = tt
below_view k (e ∷ es) h = (h.0, below_view k es h.1)

pub ascend_view : (es : List (String Global × Value)) → IsStrictlySortedBy string_cmp (keys_of es)
    → Ascend (members_view es)
unfolding IsStrictlySortedBy
ascend_view [] h = tt
ascend_view (e ∷ es) h = (below_view e.0 es h.0, ascend_view es h.1)

below_kept : (t : Bool) (k l : Text) (d : Data) (rest : Members) → slice_cmp nat_cmp k l ≡ Less → IsBelow k rest
    → IsBelow k (if t then rest else member l d rest)
below_kept true k l d rest g h = h
below_kept false k l d rest g h = (g, h)

below_without : (names : List Text) (k : Text) (ms : Members) → IsBelow k ms → IsBelow k (without names ms)
below_without names k no_members h = tt
below_without names k (member l d ms) h = below_kept (is_among names l) k l d (without names ms) h.0
    (below_without names k ms h.1)

ascend_kept : (t : Bool) (l : Text) (d : Data) (rest : Members) → IsBelow l rest → Ascend rest
    → Ascend (if t then rest else member l d rest)
ascend_kept true l d rest g h = h
ascend_kept false l d rest g h = (g, h)

pub ascend_without : (names : List Text) (ms : Members) → Ascend ms → Ascend (without names ms)
ascend_without names no_members h = tt
ascend_without names (member l d ms) h = ascend_kept (is_among names l) l d (without names ms)
    (below_without names l ms h.0) (ascend_without names ms h.1)

all_below : {A X : Type 0} (K : Kind A) (f : X → A) (ms rest : Members) (first : String Global)
    (es : List (String Global × X))
    → IsBelow (string_bytes first) ms → reads_first K ms (entries_content f es) rest
    → AllByRecursion (λ y. string_cmp first y ≡ Less) (keys_of es)
all_below K f ms rest first [] below h = tt
all_below K f no_members rest first (e ∷ es) below h = absurd h
all_below K f (member k d ms) rest first (e ∷ es) below h = (
  subst (λ l. slice_cmp nat_cmp (string_bytes first) l ≡ Less) h.0 below.0,
  all_below K f ms rest first es below.1
      h.2,
)

pub first_ascend : {A X : Type 0} (K : Kind A) (f : X → A) (ms rest : Members) (es : List (String Global × X))
    → Ascend ms → reads_first K ms (entries_content f es) rest → IsStrictlySortedBy string_cmp (keys_of es)
unfolding IsStrictlySortedBy
first_ascend K f ms rest [] ascend h = tt
first_ascend K f no_members rest (e ∷ es) ascend h = absurd h
first_ascend K f (member k d ms) rest (e ∷ es) ascend h = (
  all_below K f ms rest e.0 es (subst (λ l. IsBelow l ms) h.0 ascend.0) h.2,
  first_ascend K f ms rest es ascend.1
      h.2,
)
