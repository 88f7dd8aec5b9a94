-- Kinds of values: what a value means, which faults it has, what is written, and what is well-formed.
use Rattle.std.specs.Prelude.{◌≡◌, ℕ, suc, ℤ, Bool, true, false, ◌&&◌, ◌⊎◌, if◌then◌else◌, List, [], ◌∷◌, ◌++◌, Option, Some, is_some, IsTrue, codes, int_le}
use Rattle.std.proofs.Common.{inl, inr}
use Rattle.toml.specs.Data.{Data, string, integer, float, boolean, array, table, Items, no_items, item, Members, no_members, member, get}
use Rattle.manifest_schema.specs.Paths.{Text, wrong_kind, out_of_range, not_true, holds_float, metadata_fault, key, index, Faults}
use Rattle.manifest_schema.specs.Findings.{Finding, faults_of, among, found_here, none_of, found_under, unused_keys}
use Rattle.manifest_schema.specs.Slots.{without}

-- A kind of values that stand for an A.
pub record Kind (A : Type 0) : Type 1 where
  -- the value means this
  pub reads : Data → A → Type 0
  -- the value that is written
  pub written : A → Data
  -- it is well-formed: it can be written and read back
  pub good : A → Type 0
  -- what is found in the value: its faults, in order, and the keys that nothing reads
  pub findings : Data → List Finding

-- the value has this fault: it is among those that are found
abbrev pub faulty : {A : Type 0} → Kind A → Data → Faults
faulty K d = among (faults_of (K.findings d))

-- everything of the type is well-formed
abbrev pub any_good : {A : Type 0} → A → Type 0
any_good x = Unit {0}

-- TEXT
abbrev pub reads_text : Data → Text → Type 0
reads_text (string s) x = s ≡ x
reads_text _ x = ⊥

abbrev pub text_findings : Data → List Finding
text_findings (string s) = []
text_findings _ = found_here wrong_kind

abbrev pub text : Kind Text
text = record {
  reads = reads_text;
  written = string;
  good = any_good;
  findings = text_findings;
}

-- BOOLEAN
abbrev pub reads_flag : Data → Bool → Type 0
reads_flag (boolean b) x = b ≡ x
reads_flag _ x = ⊥

abbrev pub flag_findings : Data → List Finding
flag_findings (boolean b) = []
flag_findings _ = found_here wrong_kind

abbrev pub flag : Kind Bool
flag = record {
  reads = reads_flag;
  written = boolean;
  good = any_good;
  findings = flag_findings;
}

-- A WHOLE NUMBER from low to high, both included
abbrev pub within : ℤ → ℤ → ℤ → Bool
within low high z = int_le low z && int_le z high

abbrev pub reads_whole : ℤ → ℤ → Data → ℤ → Type 0
reads_whole low high (integer z) x = (z ≡ x) × IsTrue (within low high z)
reads_whole low high _ x = ⊥

abbrev pub whole_findings : ℤ → ℤ → Data → List Finding
whole_findings low high (integer z) = if within low high z then [] else found_here out_of_range
whole_findings low high _ = found_here wrong_kind

abbrev pub whole : ℤ → ℤ → Kind ℤ
whole low high = record {
  reads = reads_whole low high;
  written = integer;
  good = λ x. IsTrue (within low high x);
  findings = whole_findings low high;
}

-- THE BOOLEAN TRUE
abbrev pub reads_truth : Data → Unit {0} → Type 0
reads_truth (boolean true) x = Unit {0}
reads_truth _ x = ⊥

abbrev pub truth_findings : Data → List Finding
truth_findings (boolean true) = []
truth_findings (boolean false) = found_here not_true
truth_findings _ = found_here wrong_kind

abbrev pub truth : Kind (Unit {0})
truth = record {
  reads = reads_truth;
  written = λ x. boolean true;
  good = any_good;
  findings = truth_findings;
}

-- A CHOICE of texts, or of texts and booleans: each word has one meaning, and each meaning one written word
abbrev pub reads_choice : {A : Type 0} → (Data → Option A) → Data → A → Type 0
reads_choice meaning d x = meaning d ≡ Some x

abbrev pub no_word_findings : List Text → Data → List Finding
no_word_findings words (string s) = none_of words
no_word_findings words _ = found_here wrong_kind

abbrev pub choice_findings : {A : Type 0} → List Text → (Data → Option A) → Data → List Finding
choice_findings words meaning d = if is_some (meaning d) then [] else no_word_findings words d

abbrev pub choice : {A : Type 0} → List Text → (Data → Option A) → (A → Data) → Kind A
choice words meaning written = record {
  reads = reads_choice meaning;
  written = written;
  good = any_good;
  findings = choice_findings words meaning;
}

-- A LIST of values of one kind
abbrev pub reads_items : {A : Type 0} → Kind A → Items → List A → Type 0
reads_items K no_items [] = Unit {0}
reads_items K (item d ds) (x ∷ xs) = K.reads d x × reads_items K ds xs
reads_items K _ _ = ⊥

abbrev pub reads_list : {A : Type 0} → Kind A → Data → List A → Type 0
reads_list K (array ds) xs = reads_items K ds xs
reads_list K _ xs = ⊥

abbrev pub written_items : {A : Type 0} → Kind A → List A → Items
written_items K [] = no_items
written_items K (x ∷ xs) = item (K.written x) (written_items K xs)

abbrev pub good_items : {A : Type 0} → Kind A → List A → Type 0
good_items K [] = Unit {0}
good_items K (x ∷ xs) = K.good x × good_items K xs

-- what is found in the items, from the index of the first
abbrev pub item_findings : (Data → List Finding) → ℕ → Items → List Finding
item_findings find i no_items = []
item_findings find i (item d ds) =
    found_under (index i) (find d) ++ item_findings find (suc i) ds

abbrev pub list_findings : (Data → List Finding) → Data → List Finding
list_findings find (array ds) = item_findings find 0 ds
list_findings find _ = found_here wrong_kind

abbrev pub list_of : {A : Type 0} → Kind A → Kind (List A)
list_of K = record {
  reads = reads_list K;
  written = λ xs. array (written_items K xs);
  good = good_items K;
  findings = list_findings K.findings;
}

-- A MAP: a table whose values are of one kind, by its entries in the order of their keys
abbrev pub Entries : Type 0 → Type 0
Entries A = List (Text × A)

abbrev pub reads_entries : {A : Type 0} → Kind A → Members → Entries A → Type 0
reads_entries K no_members [] = Unit {0}
reads_entries K (member k d ms) (e ∷ es) = (k ≡ e.0) × K.reads d e.1 × reads_entries K ms es
reads_entries K _ _ = ⊥

abbrev pub reads_map : {A : Type 0} → Kind A → Data → Entries A → Type 0
reads_map K (table ms) es = reads_entries K ms es
reads_map K _ es = ⊥

-- the table has this entry
abbrev pub has_entry : Text → Data → Members → Type 0
has_entry k d no_members = ⊥
has_entry k d (member l e ms) = ((k ≡ l) × (d ≡ e)) ⊎ has_entry k d ms

abbrev pub written_entries : {A : Type 0} → Kind A → Entries A → Members
written_entries K [] = no_members
written_entries K (e ∷ es) = member e.0 (K.written e.1) (written_entries K es)

abbrev pub good_entries : {A : Type 0} → Kind A → Entries A → Type 0
good_entries K [] = Unit {0}
good_entries K (e ∷ es) = K.good e.1 × good_entries K es

-- what is found in the entries, in their order
abbrev pub entry_findings : (Data → List Finding) → Members → List Finding
entry_findings find no_members = []
entry_findings find (member k d ms) = found_under (key k) (find d) ++ entry_findings find ms

abbrev pub map_findings : (Data → List Finding) → Data → List Finding
map_findings find (table ms) = entry_findings find ms
map_findings find _ = found_here wrong_kind

abbrev pub map_of : {A : Type 0} → Kind A → Kind (Entries A)
map_of K = record {
  reads = reads_map K;
  written = λ es. table (written_entries K es);
  good = good_entries K;
  findings = map_findings K.findings;
}

-- KEPT: any value without a float, as it is
abbrev mutual
  pub plain : Data → Bool
  plain (float x) = false
  plain (array ds) = plain_items ds
  plain (table ms) = plain_members ms
  plain _ = true

  pub plain_items : Items → Bool
  plain_items no_items = true
  plain_items (item d ds) = plain d && plain_items ds

  pub plain_members : Members → Bool
  plain_members no_members = true
  plain_members (member k d ms) = plain d && plain_members ms

abbrev pub reads_raw : Data → Data → Type 0
reads_raw d x = (d ≡ x) × IsTrue (plain d)

-- each float, at its path
abbrev mutual
  pub float_findings : Data → List Finding
  float_findings (float x) = found_here holds_float
  float_findings (array ds) = item_floats 0 ds
  float_findings (table ms) = entry_floats ms
  float_findings _ = []

  pub item_floats : ℕ → Items → List Finding
  item_floats i no_items = []
  item_floats i (item d ds) = found_under (index i) (float_findings d) ++ item_floats (suc i) ds

  pub entry_floats : Members → List Finding
  entry_floats no_members = []
  entry_floats (member k d ms) = found_under (key k) (float_findings d) ++ entry_floats ms

abbrev pub raw : Kind Data
raw = record {
  reads = reads_raw;
  written = λ x. x;
  good = λ x. IsTrue (plain x);
  findings = float_findings;
}

-- WHAT MAY BE INHERITED from the workspace: a table whose `workspace` is the boolean true, or a value of its own
pub data Inheritable (A : Type 0) : Type 0 where
  inherited : Inheritable A
  local : A → Inheritable A

abbrev pub is_truth : Option Data → Bool
is_truth (Some (boolean b)) = b
is_truth _ = false

-- the value is a table whose `workspace` is the boolean true
abbrev pub inherits : Data → Bool
inherits d = is_truth (get (codes "workspace") d)

abbrev pub reads_inh : {A : Type 0} → Kind A → Data → Inheritable A → Type 0
reads_inh K d inherited = IsTrue (inherits d)
reads_inh K d (local x) = K.reads d x

abbrev pub written_inh : {A : Type 0} → Kind A → Inheritable A → Data
written_inh K inherited = table (member (codes "workspace") (boolean true) no_members)
written_inh K (local x) = K.written x

abbrev pub good_inh : {A : Type 0} → Kind A → Inheritable A → Type 0
good_inh K inherited = Unit {0}
good_inh K (local x) = K.good x

-- of a table whose `workspace` is the boolean true, nothing else is read
abbrev pub inh_findings : (Data → List Finding) → Data → List Finding
inh_findings find (table ms) =
    if inherits (table ms) then unused_keys (without (codes "workspace" ∷ []) ms)
    else found_here wrong_kind
inh_findings find d = find d

abbrev pub inh : {A : Type 0} → Kind A → Kind (Inheritable A)
inh K = record {
  reads = reads_inh K;
  written = written_inh K;
  good = good_inh K;
  findings = inh_findings K.findings;
}

-- ONE OF TWO KINDS: K where the test of the value holds, else L; `side` says of which of the two a C is
abbrev pub reads_split : {A B : Type 0} → Kind A → Kind B → Bool → Data → A ⊎ B → Type 0
reads_split K L true d (inl a) = K.reads d a
reads_split K L false d (inr b) = L.reads d b
reads_split K L _ d _ = ⊥

abbrev pub written_split : {A B : Type 0} → Kind A → Kind B → A ⊎ B → Data
written_split K L (inl a) = K.written a
written_split K L (inr b) = L.written b

abbrev pub good_split : {A B : Type 0} → Kind A → Kind B → A ⊎ B → Type 0
good_split K L (inl a) = K.good a
good_split K L (inr b) = L.good b

abbrev pub split_findings :
    (Data → List Finding) → (Data → List Finding) → Bool → Data → List Finding
split_findings first second true = first
split_findings first second false = second

abbrev pub split : {A B C : Type 0} → (Data → Bool) → Kind A → Kind B → (C → A ⊎ B) → Kind C
split test K L side = record {
  reads = λ d x. reads_split K L (test d) d (side x);
  written = λ x. written_split K L (side x);
  good = λ x. good_split K L (side x);
  findings = λ d. split_findings K.findings L.findings (test d) d;
}

-- the tests
abbrev pub is_text : Data → Bool
is_text (string s) = true
is_text _ = false

abbrev pub is_flag : Data → Bool
is_flag (boolean b) = true
is_flag _ = false

-- METADATA: what a metadata type names, each of its values by its written tree
abbrev pub metadata :
    {M : Type 0} → (Data → M → Type 0) → (M → Data) → (M → Type 0)
    → (Data → List Finding) → Kind Data
metadata {M} reads written good findings = record {
  reads = λ d x. (m : M) × reads d m × (written m ≡ x);
  written = λ x. x;
  good = λ x. (m : M) × good m × (written m ≡ x);
  findings = findings;
}

-- the metadata of a kind: each value of the kind by its written tree
abbrev pub tree_of : {A : Type 0} → Kind A → Kind Data
tree_of K = metadata K.reads K.written K.good K.findings

-- no metadata at all: every value is refused, and nothing is well-formed
abbrev pub nothing : Kind (Unit {0})
nothing = record {
  reads = λ d x. ⊥;
  written = λ x. table no_members;
  good = λ x. ⊥;
  findings = λ d. found_here metadata_fault;
}

-- metadata that is not looked at: every value is read, as the same, and the empty table is written
abbrev pub unread : Kind (Unit {0})
unread = record {
  reads = λ d x. Unit {0};
  written = λ x. table no_members;
  good = any_good;
  findings = λ d. [];
}
