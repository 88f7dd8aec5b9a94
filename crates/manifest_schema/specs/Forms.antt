-- Forms: a record is read from a table by a list of rows, one for each field.
use Rattle.std.specs.Prelude.{◌≡◌, Bool, true, false, not, ◌&&◌, List, [], ◌∷◌, ◌++◌, IsTrue}
use Rattle.toml.specs.Data.{Data, table, Members, no_members}
use Rattle.manifest_schema.specs.Paths.{Text, wrong_kind}
use Rattle.manifest_schema.specs.Findings.{Finding, found_here, unused_keys}
use Rattle.manifest_schema.specs.Slots.{Spellings, only, both, first, slot, at, put_some, is_among, without}
use Rattle.manifest_schema.specs.Kinds.{Kind, Entries, reads_entries, written_entries, good_entries, entry_findings}
use Rattle.manifest_schema.specs.Needs.{Need}

-- A row: where the field's content stands in the record, its spellings, and its need with its kind.
pub record Row (A : Type 0) : Type 1 where
  pub content : Type 0
  pub get : A → content
  pub spellings : Spellings
  pub need : Need content

abbrev pub row : {A C : Type 0} → (A → C) → Spellings → Need C → Row A
row {C = C} get names need = record { content = C; get = get; spellings = names; need = need }

-- The rows of a form. It ends with no more rows, and all other keys are free, or with the map of all other keys.
infixr 40 ◌⨾◌
pub data Rows (A : Type 0) : Type 1 where
  no_more : Rows A
  others : {B : Type 0} → (A → Entries B) → Kind B → Rows A
  ◌⨾◌ : Row A → Rows A → Rows A

-- THE NAMED KEYS
abbrev pub spell : Spellings → List Text → List Text
spell (only k) ks = k ∷ ks
spell (both k l) ks = k ∷ l ∷ ks

-- all spellings of a form
abbrev pub spelled : {A : Type 0} → Rows A → List Text
spelled (r ⨾ rs) = spell r.spellings (spelled rs)
spelled _ = []

-- these spellings differ from each other and from the keys
abbrev pub differ : Spellings → List Text → Bool
differ (only k) ks = not (is_among ks k)
differ (both k l) ks = not (is_among (l ∷ ks) k) && not (is_among ks l)

-- all spellings of the form differ
abbrev pub distinct : {A : Type 0} → Rows A → Bool
distinct (r ⨾ rs) = differ r.spellings (spelled rs) && distinct rs
distinct _ = true

-- THE CONTENTS OF A RECORD, one after the other
abbrev pub Fields : {A : Type 0} → Rows A → Type 0
Fields (r ⨾ rs) = r.content × Fields rs
Fields (others {B = B} get K) = Entries B
Fields no_more = Unit {0}

abbrev pub gets : {A : Type 0} (rows : Rows A) → A → Fields rows
gets (r ⨾ rs) x = (r.get x, gets rs x)
gets (others get K) x = get x
gets no_more x = tt

-- WHAT A TABLE MEANS BY A FORM: each row is met by what the table holds under its spellings
abbrev pub fits_beside : {A : Type 0} → List Text → (rows : Rows A) → Members → Fields rows → Type 0
fits_beside named (r ⨾ rs) ms t = r.need.meets (at r.spellings ms) t.0 × fits_beside named rs ms t.1
fits_beside named (others get K) ms t = reads_entries K (without named ms) t
fits_beside named no_more ms t = Unit {0}

abbrev pub fits : {A : Type 0} → Rows A → Members → A → Type 0
fits rows ms x = fits_beside (spelled rows) rows ms (gets rows x)

-- WHAT IS WRITTEN: each row under its first spelling, with the map of all other keys
abbrev pub written_rows : {A : Type 0} (rows : Rows A) → Fields rows → Members
written_rows (r ⨾ rs) t = put_some (first r.spellings) (r.need.written t.0) (written_rows rs t.1)
written_rows (others get K) t = written_entries K t
written_rows no_more t = no_members

-- the table holds what is written of each row, under its first spelling alone, and no other entries than the map's
abbrev pub holds_beside :
    {A : Type 0} → List Text → (rows : Rows A) → Fields rows → Members → Type 0
holds_beside named (r ⨾ rs) t ms =
    (at r.spellings ms ≡ slot (first r.spellings) (r.need.written t.0))
    × holds_beside named rs t.1 ms
holds_beside named (others get K) t ms = without named ms ≡ written_entries K t
holds_beside named no_more t ms = without named ms ≡ no_members

abbrev pub holds : {A : Type 0} → Rows A → Members → A → Type 0
holds rows ms x = holds_beside (spelled rows) rows (gets rows x) ms

-- WHAT IS WELL-FORMED: each content, and no entry of the map has the key of a row
abbrev pub none_named : {B : Type 0} → List Text → Entries B → Bool
none_named named [] = true
none_named named (e ∷ es) = not (is_among named e.0) && none_named named es

abbrev pub good_beside : {A : Type 0} → List Text → (rows : Rows A) → Fields rows → Type 0
good_beside named (r ⨾ rs) t = r.need.good t.0 × good_beside named rs t.1
good_beside named (others get K) t = IsTrue (none_named named t) × good_entries K t
good_beside named no_more t = Unit {0}

abbrev pub good_rows : {A : Type 0} → Rows A → A → Type 0
good_rows rows x = good_beside (spelled rows) rows (gets rows x)

-- WHAT IS FOUND: row by row, or in the map of all other keys
abbrev pub findings_beside : {A : Type 0} → List Text → Rows A → Members → List Finding
findings_beside named (r ⨾ rs) ms =
    r.need.findings r.spellings (at r.spellings ms) ++ findings_beside named rs ms
findings_beside named (others get K) ms = entry_findings K.findings (without named ms)
findings_beside named no_more ms = []

abbrev pub row_findings : {A : Type 0} → Rows A → Members → List Finding
row_findings rows = findings_beside (spelled rows) rows

-- the entries that nothing of the form reads: none where it ends with the map of all other keys
abbrev pub left_beside : {A : Type 0} → List Text → Rows A → Members → Members
left_beside named (r ⨾ rs) ms = left_beside named rs ms
left_beside named (others get K) ms = no_members
left_beside named no_more ms = without named ms

abbrev pub left_over : {A : Type 0} → Rows A → Members → Members
left_over rows = left_beside (spelled rows) rows

-- THE KIND OF A FORM
abbrev pub reads_form : {A : Type 0} → Rows A → Data → A → Type 0
reads_form rows (table ms) x = fits rows ms x
reads_form rows _ x = ⊥

abbrev pub form_findings : {A : Type 0} → Rows A → Data → List Finding
form_findings rows (table ms) = row_findings rows ms ++ unused_keys (left_over rows ms)
form_findings rows _ = found_here wrong_kind

abbrev pub form : {A : Type 0} → Rows A → Kind A
form rows = record {
  reads = reads_form rows;
  written = λ x. table (written_rows rows (gets rows x));
  good = good_rows rows;
  findings = form_findings rows;
}

-- the form reads no key but those of its rows
abbrev pub is_closed : {A : Type 0} → Rows A → Bool
is_closed (r ⨾ rs) = is_closed rs
is_closed (others get K) = false
is_closed no_more = true
