-- What a reader or a writer that is passed as a closure gives at each item of a list and each entry of a map.
use Rattle.manifest_schema.specs.Prelude.{BTreeMap, values, AllZip, Contains, AllocError, Global, array, table, view, items_view, members_view, Value, Path, Cause, key, index, Faults, under}
use Rattle.std.specs.Prelude.{◌≡◌, ◌⊎◌, List, ◌∷◌, ◌++◌, length, Result, Ok, Err, String, Vec, string_bytes}
use Rattle.toml.specs.declared.value.Value.{Array, Table}
use Rattle.manifest_fault.specs.Faults.{path_of, cause_of, no_list, no_table}
use Rattle.manifest_fault.specs.declared.fault.SchemaFault.{SchemaFault}
use Rattle.manifest_fault.specs.declared.fault.ReadFault.{ReadFault}
use Rattle.manifest_fault.specs.declared.fault.ReadFault.TheVariants.{Schema}

-- CALLS
-- the results that the calls at some items gave, each of them Ok, in order
abbrev pub ItemsGiven : {X Y E : Type 0} → (X → Result Y E → Type 0) → List X → List Y → Type 0
ItemsGiven R xs ys = AllZip (λ x y. R x (Ok y)) xs ys

-- the same for the values of some entries, with their keys
abbrev pub EntriesGiven :
    {X Y E : Type 0} → (X → Result Y E → Type 0) → List (String Global × X) →
    List (String Global × Y) → Type 0
EntriesGiven R es gs = AllZip (λ e g. (string_bytes g.0 ≡ string_bytes e.0) × R e.1 (Ok g.1)) es gs

-- READERS
-- the results that a reader may give at a value
abbrev pub ReaderAnswers : Type 0 → Type 1
ReaderAnswers T = Value → Result T ReadFault → Type 0

-- the reader refuses v, for this cause at this path
pub record Refused {T : Type 0} (R : ReaderAnswers T) (v : Value) (p : Path) (c : Cause)
    : Type 0 where
  pub fault : SchemaFault
  pub answer : R v (Err (Schema fault))
  pub path : path_of fault.path ≡ p
  pub cause : cause_of fault.cause ≡ c

-- LISTS
-- v is a list, and x one of its items
abbrev pub IsItemOf : Value → Value → Type 0
IsItemOf v x = (vs : Vec Value Global) × (v ≡ Array vs) × Contains vs.items x

-- v is a list, and the reader gives xs at its items
pub record ListGiven {T : Type 0} (R : ReaderAnswers T) (v : Value) (xs : List T) : Type 0 where
  pub list : Vec Value Global
  pub is : v ≡ Array list
  pub given : ItemsGiven R list.items xs

-- the reader refuses an item, and reads those before it: the fault has the item's index before its path
pub record ItemRefused {T : Type 0} (R : ReaderAnswers T) (vs : List Value) (p : Path) (c : Cause)
    : Type 0 where
  pub before : List Value
  pub item : Value
  pub after : List Value
  pub whole : vs ≡ before ++ item ∷ after
  pub answers : List T
  pub given : ItemsGiven R before answers
  pub refused : under (index (length before)) (Refused R item) p c

-- v is no list, or one of its items is refused
abbrev pub ListRefused : {T : Type 0} → ReaderAnswers T → Value → Faults
ListRefused R v p c =
    no_list (view v) p c ⊎ ((vs : Vec Value Global) × (v ≡ Array vs) × ItemRefused R vs.items p c)

-- MAPS
-- v is a table, and x the value of one of its entries
abbrev pub IsValueOf : Value → Value → Type 0
IsValueOf v x = (m : BTreeMap (String Global) Value) × (v ≡ Table m) × Contains (values m) x

-- v is a table, and the reader gives these entries at its own
pub record MapGiven {T : Type 0} (R : ReaderAnswers T) (v : Value) (gs : List (String Global × T))
    : Type 0 where
  pub table : BTreeMap (String Global) Value
  pub is : v ≡ Table table
  pub given : EntriesGiven R table.entries gs

-- the reader refuses the value of an entry, and reads those before it: the fault has the key before its path
pub record EntryRefused {T : Type 0} (R : ReaderAnswers T) (es : List (String Global × Value))
    (p : Path) (c : Cause) : Type 0 where
  pub before : List (String Global × Value)
  pub entry : String Global × Value
  pub after : List (String Global × Value)
  pub whole : es ≡ before ++ entry ∷ after
  pub answers : List (String Global × T)
  pub given : EntriesGiven R before answers
  pub refused : under (key (string_bytes entry.0)) (Refused R entry.1) p c

-- v is no table, or the value of one of its entries is refused
abbrev pub MapRefused : {T : Type 0} → ReaderAnswers T → Value → Faults
MapRefused R v p c =
    no_table (view v) p c
    ⊎ ((m : BTreeMap (String Global) Value) × (v ≡ Table m) × EntryRefused R m.entries p c)

-- WRITERS
-- the results that a writer may give at a value of its type
abbrev pub WriterAnswers : Type 0 → Type 1
WriterAnswers X = X → Result Value AllocError → Type 0

-- v is the list of what the writer gives at the items
pub record ListWritten {X : Type 0} (W : WriterAnswers X) (xs : List X) (v : Value) : Type 0 where
  pub items : List Value
  pub is : view v ≡ array (items_view items)
  pub given : ItemsGiven W xs items

-- v is the table of what the writer gives at the entries
pub record MapWritten {X : Type 0} (W : WriterAnswers X) (es : List (String Global × X)) (v : Value)
    : Type 0 where
  pub entries : List (String Global × Value)
  pub is : view v ≡ table (members_view entries)
  pub given : EntriesGiven W es entries
