-- The laws of kinds, needs and forms.
use Rattle.std.specs.Prelude.{◌≡◌, ◌⊎◌, ◌↔◌, Bool, true, not, List, [], ◌∷◌, IsTrue, IsFalse}
use Rattle.toml.specs.Data.{Data, Members, table, is_sorted}
use Rattle.manifest_schema.specs.Paths.{Text, Cause, key, Path, Faults}
use Rattle.manifest_schema.specs.Findings.{Finding, fault, ignored, unused, IsFaultless, found_under, unused_of, FindsAll, found_paths, AllDiverge, AllBegin}
use Rattle.manifest_schema.specs.Slots.{Spellings, first, Slot, one, slot, is_among}
use Rattle.manifest_schema.specs.Kinds.{Kind, has_entry, faulty}
use Rattle.manifest_schema.specs.Needs.{Need}
use Rattle.manifest_schema.specs.LeftOut.{from_step, ends_here, left_out}
use Rattle.manifest_schema.specs.Forms.{Rows, no_more, others, ◌⨾◌, Fields, gets, spelled, is_closed, form, written_rows, good_rows, holds}

-- NO FAULT IS FOUND exactly if there is a reading
abbrev pub Decided : {A : Type 0} → List Finding → (A → Type 0) → Type 0
Decided {A} fs R = IsFaultless fs ↔ ((x : A) × R x)

-- the findings without the keys that nothing reads
abbrev pub but_unused : List Finding → List Finding
but_unused [] = []
but_unused (fault p c ws ∷ fs) = fault p c ws ∷ but_unused fs
but_unused (ignored p c ws ∷ fs) = ignored p c ws ∷ but_unused fs
but_unused (unused p ∷ fs) = but_unused fs

-- the same contents, and the same findings without those keys
abbrev pub AlikeBut :
    {A : Type 0} → (A → Type 0) → List Finding → (A → Type 0) → List Finding → Type 0
AlikeBut {A} R fs Q gs = ((x : A) → R x ↔ Q x) × (fs ≡ but_unused gs)

-- the paths of the keys in the value that nothing reads
abbrev pub unused_in : {A : Type 0} → Kind A → Data → List Path
unused_in K d = unused_of (K.findings d)

-- what is found in the value of a slot, with its key before the path
abbrev pub slot_findings : (Data → List Finding) → Slot → List Finding
slot_findings value (one k d) = found_under (key k) (value d)
slot_findings value _ = []

-- the key under which something may be found of a slot
abbrev pub slot_key : Spellings → Slot → Text
slot_key names (one k d) = k
slot_key names _ = first names

-- the keys of the slot's value ascend
abbrev pub IsSlotSorted : Slot → Type 0
IsSlotSorted (one k d) = IsTrue (is_sorted d)
IsSlotSorted _ = Unit {0}

-- THE LAWS of a kind
pub record IsSound {A : Type 0} (K : Kind A) : Type 0 where
  -- a value has at most one reading
  pub single : (d : Data) (x y : A) → K.reads d x → K.reads d y → x ≡ y
  -- no fault is found in it exactly if it has one
  pub decided : (d : Data) → Decided (K.findings d) (K.reads d)
  -- what is read is well-formed
  pub well : (d : Data) (x : A) → K.reads d x → K.good x
  -- what is written of a well-formed one is read back, and nothing is found in it
  pub back : (x : A) → K.good x → K.reads (K.written x) x × (K.findings (K.written x) ≡ [])
  -- without the keys that nothing reads, a value whose keys ascend has the same readings, and the
  -- same is found in it, in the same order, but for these keys
  pub tidy :
      (d : Data) → IsTrue (is_sorted d) →
      let e = left_out (unused_in K d) d in
      AlikeBut (K.reads e) (K.findings e) (K.reads d) (K.findings d)
  -- and all these keys stand inside it
  pub inside : (d : Data) → IsFalse (ends_here (unused_in K d))
  -- where its keys ascend, what is found in it stands at paths that diverge
  pub once : (d : Data) → IsTrue (is_sorted d) → AllDiverge (found_paths (K.findings d))

-- the same for what a need finds of a slot
pub record FindsSoundly {C : Type 0} (n : Need C) : Type 0 where
  pub decided : (names : Spellings) (s : Slot) → Decided (n.findings names s) (n.meets s)
  pub clean :
      (names : Spellings) (k : Text) (x : C) → n.good x →
      n.findings names (slot k (n.written x)) ≡ []
  -- the unused keys are those of the value under the spelling that is present
  pub value : Data → List Finding
  pub found :
      (names : Spellings) (s : Slot) →
      unused_of (n.findings names s) ≡ unused_of (slot_findings value s)
  pub tidy :
      (names : Spellings) (k : Text) (d : Data) → IsTrue (is_sorted d) →
      let e = left_out (unused_of (value d)) d in
      AlikeBut (n.meets (one k e)) (n.findings names (one k e))
      (n.meets (one k d)) (n.findings names (one k d))
  pub inside : (d : Data) → IsFalse (ends_here (unused_of (value d)))
  -- each path begins with the key of the slot
  pub begins :
      (names : Spellings) (s : Slot) →
      AllBegin (λ t. t ≡ key (slot_key names s)) (found_paths (n.findings names s))
  pub once :
      (names : Spellings) (s : Slot) → IsSlotSorted s →
      AllDiverge (found_paths (n.findings names s))

-- and for what it gives
pub record IsSoundNeed {C : Type 0} (n : Need C) : Type 0 where
  pub finds : FindsSoundly n
  pub single : (s : Slot) (x y : C) → n.meets s x → n.meets s y → x ≡ y
  pub well : (s : Slot) (x : C) → n.meets s x → n.good x
  pub back : (k : Text) (x : C) → n.good x → n.meets (slot k (n.written x)) x

-- the rows of a form satisfy them
abbrev pub AreSound : {A : Type 0} → Rows A → Type 0
AreSound (r ⨾ rs) = IsSoundNeed r.need × AreSound rs
AreSound (others get K) = IsSound K
AreSound no_more = Unit {0}

-- the record is the contents of its rows, no more and no less
pub record IsBuilt {A : Type 0} (rows : Rows A) : Type 0 where
  pub build : Fields rows → A
  pub all : (x : A) → build (gets rows x) ≡ x
  pub each : (t : Fields rows) → gets rows (build t) ≡ t

-- WHAT THE COMBINATORS ASK
-- the default is well-formed, and what is skipped is the default
pub record IsDefault {B : Type 0} (K : Kind B) (e : B) (skipped : B → Bool) : Type 0 where
  pub well : K.good e
  pub skips : (x : B) → skipped x ≡ true → x ≡ e

-- no value of the kind is a table, and each content can be written: what may be inherited needs this of its own value
pub record IsPlain {A : Type 0} (K : Kind A) : Type 0 where
  pub no_table : (ms : Members) (x : A) → K.reads (table ms) x → ⊥
  pub writes_no_table : (ms : Members) (x : A) → K.written x ≡ table ms → ⊥
  pub all_good : (x : A) → K.good x

-- in a closed form a key of the table is one that nothing reads exactly if no row has it
abbrev pub UnusedIfNoRow : {A : Type 0} → Rows A → Type 0
UnusedIfNoRow rows =
    IsTrue (is_closed rows) → (ms : Members) (k : Text) (d : Data) → has_entry k d ms →
    ends_here (from_step (key k) (unused_in (form rows) (table ms)))
    ≡ not (is_among (spelled rows) k)

-- of a well-formed content the form writes each row, and nothing else
abbrev pub WritesEachRow : {A : Type 0} → Rows A → Type 0
WritesEachRow {A} rows =
    (x : A) → good_rows rows x → holds rows (written_rows rows (gets rows x)) x

-- THE LAWS ONE BY ONE
-- a value has a reading or a fault
abbrev pub ReadOrFaulty : {A : Type 0} → (A → Type 0) → Faults → Type 0
ReadOrFaulty {A} R F = ((x : A) × R x) ⊎ ((p : Path) × (c : Cause) × F p c)

-- readings and faults
pub record IsLawful {A : Type 0} (K : Kind A) : Type 0 where
  pub single : (d : Data) (x y : A) → K.reads d x → K.reads d y → x ≡ y
  pub apart : (d : Data) (p : Path) (c : Cause) (x : A) → faulty K d p c → K.reads d x → ⊥
  pub well : (d : Data) (x : A) → K.reads d x → K.good x
  pub back : (x : A) → K.good x → K.reads (K.written x) x
  pub exact : (d : Data) → FindsAll (K.findings d) (faulty K d)

pub record IsTotal {A : Type 0} (K : Kind A) : Type 0 where
  pub total : (d : Data) → ReadOrFaulty (K.reads d) (faulty K d)

-- without its unused keys a value has the same readings and the same faults
pub record IsTidy {A : Type 0} (K : Kind A) : Type 0 where
  pub reads :
      (d : Data) → IsTrue (is_sorted d) → (x : A) →
      K.reads (left_out (unused_in K d) d) x ↔ K.reads d x
  pub faulty :
      (d : Data) → IsTrue (is_sorted d) → (p : Path) (c : Cause) →
      faulty K (left_out (unused_in K d) d) p c ↔ faulty K d p c
  pub inside : (d : Data) → IsFalse (ends_here (unused_in K d))

-- nothing is found in what is written
pub record IsClean {A : Type 0} (K : Kind A) : Type 0 where
  pub clean : (x : A) → K.good x → K.findings (K.written x) ≡ []

-- each place is found once
pub record IsDiverging {A : Type 0} (K : Kind A) : Type 0 where
  pub diverging : (d : Data) → IsTrue (is_sorted d) → AllDiverge (found_paths (K.findings d))
