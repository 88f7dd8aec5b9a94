-- What the lists of findings leave no choice in: where faults stand, the words of a choice, what is ignored, and which
-- keys are unused.
use Rattle.std.specs.Prelude.{◌≡◌, ◌↔◌, ℕ, Bool, false, ◌&&◌, ◌||◌, ◌⊎◌, not, List, [], ◌∷◌, Option, Some, None, IsTrue, IsFalse, codes}
use Rattle.toml.specs.Data.{Data, float, string, array, table, Items, get_item, Members, get_member, same_key, members_are_sorted}
use Rattle.manifest_schema.specs.Paths.{Text, Cause, wrong_kind, not_a_choice, missing, two_spellings, holds_float, key, index, Path, Faults, at_value, under}
use Rattle.manifest_schema.specs.Findings.{fault, faults_of, ignored_of, unused_of, among, IsFaultless}
use Rattle.manifest_schema.specs.LeftOut.{from_step, ends_here}
use Rattle.manifest_schema.specs.Slots.{Spellings, only, first, Slot, absent, one, clash, at, is_among, without}
use Rattle.manifest_schema.specs.Kinds.{Kind, faulty, raw, has_entry, list_of, map_of, inherits, inh}
use Rattle.manifest_schema.specs.Needs.{Need}
use Rattle.manifest_schema.specs.Forms.{Rows, no_more, others, ◌⨾◌, spelled, form}
use Rattle.manifest_schema.specs.Lawful.{unused_in}
use Rattle.manifest_schema.specs.PartForms.{badge_rows, maintenance_rows}
use Rattle.manifest_schema.specs.ManifestForms.{package_rows, manifest_rows}
use Rattle.manifest_schema.specs.Meaning.{has_header}
use Rattle.manifest_schema.specs.Found.{manifest_findings, manifest_ignored}

-- WHERE FAULTS STAND
-- a fault of an item, with its index before the path
abbrev pub faulty_item : {A : Type 0} → Kind A → Items → Faults
faulty_item K ds p c =
    (i : ℕ) × (d : Data) × (get_item i ds ≡ Some d) × under (index i) (faulty K d) p c

-- the faults of a list are those of its items
abbrev pub FaultyByItems : {A : Type 0} → Kind A → Type 0
FaultyByItems K =
    (ds : Items) (p : Path) (c : Cause) →
    faulty (list_of K) (array ds) p c ↔ faulty_item K ds p c

-- a fault of an entry, with its key before the path
abbrev pub faulty_entry : {A : Type 0} → Kind A → Members → Faults
faulty_entry K ms p c =
    (k : Text) × (d : Data) × has_entry k d ms × under (key k) (faulty K d) p c

-- the faults of a map are those of its entries
abbrev pub FaultyByEntries : {A : Type 0} → Kind A → Type 0
FaultyByEntries K =
    (ms : Members) (p : Path) (c : Cause) →
    faulty (map_of K) (table ms) p c ↔ faulty_entry K ms p c

-- the path leads to a float
abbrev pub float_at : Path → Data → Type 0
float_at [] (float x) = Unit {0}
float_at (index i ∷ p) (array ds) = (d : Data) × (get_item i ds ≡ Some d) × float_at p d
float_at (key k ∷ p) (table ms) = (d : Data) × has_entry k d ms × float_at p d
float_at _ _ = ⊥

abbrev pub float_in : Data → Faults
float_in d p c = float_at p d × (c ≡ holds_float)

-- the faults of a kept value are its floats
abbrev pub FaultyByFloats : Type 0
FaultyByFloats = (d : Data) (p : Path) (c : Cause) → faulty raw d p c ↔ float_in d p c

-- a table that may inherit and does not has one fault: it is a table
abbrev pub FaultyUnlessInherited : {A : Type 0} → Kind A → Type 0
FaultyUnlessInherited K =
    (ms : Members) (p : Path) (c : Cause) →
    faulty (inh K) (table ms) p c ↔ (IsFalse (inherits (table ms)) × at_value wrong_kind p c)

-- a clash and an absence stand at the first spelling
abbrev pub clash_at : Spellings → Faults
clash_at names = under (key (first names)) (at_value two_spellings)

abbrev pub missing_at : Spellings → Faults
missing_at names = under (key (first names)) (at_value missing)

-- a field that may be absent: a clash, or a fault of its value under the spelling that is present
abbrev pub faulty_free : {B : Type 0} → Spellings → Kind B → Slot → Faults
faulty_free names K absent p c = ⊥
faulty_free names K clash p c = clash_at names p c
faulty_free names K (one k d) p c = under (key k) (faulty K d) p c

-- a field that has to be there: also that it is absent
abbrev pub faulty_required : {B : Type 0} → Spellings → Kind B → Slot → Faults
faulty_required names K absent p c = missing_at names p c
faulty_required names K s p c = faulty_free names K s p c

-- the faults of a need are these
abbrev pub FaultyBySlot : {B C : Type 0} → Kind B → Need C → Type 0
FaultyBySlot K n =
    (names : Spellings) (s : Slot) (p : Path) (c : Cause) →
    among (faults_of (n.findings names s)) p c ↔ faulty_free names K s p c

abbrev pub FaultyIfRequired : {B C : Type 0} → Kind B → Need C → Type 0
FaultyIfRequired K n =
    (names : Spellings) (s : Slot) (p : Path) (c : Cause) →
    among (faults_of (n.findings names s)) p c ↔ faulty_required names K s p c

-- the need has none
abbrev pub NeverFaulty : {C : Type 0} → Need C → Type 0
NeverFaulty n = (names : Spellings) (s : Slot) → IsFaultless (n.findings names s)

-- a fault of some row, or of the entry of another key
abbrev pub unfit_beside : {A : Type 0} → List Text → Rows A → Members → Faults
unfit_beside named (r ⨾ rs) ms p c =
    among (faults_of (r.need.findings r.spellings (at r.spellings ms))) p c
    ⊎ unfit_beside named rs ms p c
unfit_beside named (others get K) ms p c = faulty_entry K (without named ms) p c
unfit_beside named no_more ms p c = ⊥

-- the faults of a table by a form are these
abbrev pub FaultyByRows : {A : Type 0} → Rows A → Type 0
FaultyByRows rows =
    (ms : Members) (p : Path) (c : Cause) →
    faulty (form rows) (table ms) p c ↔ unfit_beside (spelled rows) rows ms p c

-- THE WORDS that stand with the fault of a text that is none of them are exactly the texts that are read
abbrev pub ListsWords : {A : Type 0} → Kind A → Type 0
ListsWords {A} K =
    (s : Text) (ws : List Text) → K.findings (string s) ≡ fault [] not_a_choice ws ∷ [] →
    (t : Text) → IsTrue (is_among ws t) ↔ ((x : A) × K.reads (string t) x)

-- WHAT IS IGNORED of a need is exactly the faults of its value, or that both spellings are there
abbrev pub Ignores : {B C : Type 0} → Kind B → Need C → Type 0
Ignores K n =
    (names : Spellings) (s : Slot) (p : Path) (c : Cause) →
    among (ignored_of (n.findings names s)) p c ↔ faulty_free names K s p c

-- nothing is ignored of a value
abbrev pub IgnoresNothing : {A : Type 0} → Kind A → Type 0
IgnoresNothing K = (d : Data) → ignored_of (K.findings d) ≡ []

-- the keys of the badges that are tables of one form
abbrev pub badge_keys : List Text
badge_keys =
    codes "appveyor" ∷ codes "circle-ci" ∷ codes "gitlab" ∷ codes "travis-ci" ∷ codes "codecov"
    ∷ codes "coveralls" ∷ codes "is-it-maintained-issue-resolution"
    ∷ codes "is-it-maintained-open-issues" ∷ []

-- a fault of the badge under one of these keys, or of the maintenance
abbrev pub unfit_badge : List Text → Members → Faults
unfit_badge (k ∷ ks) bs p c =
    faulty_free (only k) (form badge_rows) (at (only k) bs) p c ⊎ unfit_badge ks bs p c
unfit_badge [] bs p c =
    let names = only (codes "maintenance") in
    faulty_free names (form maintenance_rows) (at names bs) p c

-- what is ignored of a whole manifest is exactly the faults of its badges, if nothing of its metadata is ignored
abbrev pub IgnoresBadgesAlone : Kind Data → Kind Data → Type 0
IgnoresBadgesAlone K W =
    IgnoresNothing K → IgnoresNothing W → (ms : Members) (p : Path) (c : Cause) →
    among (manifest_ignored K W ms) p c
    ↔ ((bs : Members) × (get_member (codes "badges") ms ≡ Some (table bs))
    × under (key (codes "badges")) (unfit_badge badge_keys bs) p c)

-- WHICH KEYS ARE UNUSED: the key is one of these paths, as one that nothing reads
abbrev pub is_unused_key : Text → List Path → Bool
is_unused_key k ps = ends_here (from_step (key k) ps)

-- what is unused in a list is what is unused in its items, each under its index
abbrev pub UnusedByItems : {A : Type 0} → Kind A → Type 0
UnusedByItems K =
    (ds : Items) (i : ℕ) (d : Data) → get_item i ds ≡ Some d →
    from_step (index i) (unused_in (list_of K) (array ds)) ≡ unused_in K d

-- where keys ascend, what is unused in a map is what is unused in its entries, each under its key
abbrev pub UnusedByEntries : {A : Type 0} → Kind A → Type 0
UnusedByEntries K =
    (ms : Members) → IsTrue (members_are_sorted ms) →
    (k : Text) (d : Data) → has_entry k d ms →
    from_step (key k) (unused_in (map_of K) (table ms)) ≡ unused_in K d

-- of a table that inherits, each key but `workspace` is unused; of another table none is
abbrev pub InheritedUnused : {A : Type 0} → Kind A → Type 0
InheritedUnused K =
    (ms : Members) (k : Text) (d : Data) → has_entry k d ms →
    is_unused_key k (unused_in (inh K) (table ms))
    ≡ (inherits (table ms) && not (same_key (codes "workspace") k))

-- a row of a manifest has the key, or one of a package that is read from the same table, or it is the old `project`
abbrev pub is_known_old : Kind Data → Kind Data → Option Data → Text → Bool
is_known_old K W (Some d) k =
    is_among (spelled (manifest_rows K W)) k || same_key (codes "project") k
is_known_old K W None k =
    is_among (spelled (manifest_rows K W)) k || is_among (spelled (package_rows K)) k

-- at the top of a table without a header a key is unused exactly if it is not known
abbrev pub OldTopUnused : Kind Data → Kind Data → Type 0
OldTopUnused K W =
    (ms : Members) → has_header ms ≡ false → (k : Text) (d : Data) → has_entry k d ms →
    is_unused_key k (unused_of (manifest_findings K W ms))
    ≡ not (is_known_old K W (get_member (codes "project") ms) k)

-- READ BY NOTHING, said without the list: tables that agree under these keys have the same readings and the same faults
abbrev pub ReadsOnly : {A : Type 0} → List Text → Kind A → Type 0
ReadsOnly {A} names K =
    (ms ns : Members) →
    ((k : Text) → IsTrue (is_among names k) → get_member k ms ≡ get_member k ns) →
    ((x : A) → K.reads (table ms) x ↔ K.reads (table ns) x)
    × (faults_of (K.findings (table ms)) ≡ faults_of (K.findings (table ns)))
