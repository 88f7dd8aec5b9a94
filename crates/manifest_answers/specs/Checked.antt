-- What is wrong with a manifest, as a value and as its tagged bytes, and what a caller says of the files around it.
use Rattle.manifest_schema.specs.Prelude.{BTreeMap, Value, table_view, Global, Data, Members, Text, integer, string, boolean, array, no_items}
use Rattle.std.specs.Prelude.{◌≡◌, ◌⊎◌, ℕ, pos, [], ◌∷◌, List, map, length, Option, Some, None, IsTrue, IsUtf8, All, string_bytes}
use Rattle.std.specs.List.{AllByRecursion}
use Rattle.std.specs.declared.string.String.{String}
use Rattle.toml.specs.View.{items_of}
use Rattle.toml.specs.Parse.{parse_document}
use Rattle.manifest_bytes.specs.Encoded.{encoded}
use Rattle.manifest_fault.specs.Faults.{step_of}
use Rattle.manifest_places.specs.Splices.{splice_of}
use Rattle.manifest_places.specs.declared.located.Located.{Located}
use Rattle.manifest_rules.specs.declared.codes.Level.{Level}
use Rattle.manifest_rules.specs.declared.codes.Level.TheVariants as level
use Rattle.manifest_rules.specs.declared.report.File.{File}
use Rattle.manifest_rules.specs.declared.report.File.TheVariants as file
use Rattle.manifest_rules.specs.declared.look.Folders.{Folders}
use Rattle.manifest_lint.specs.Lint.{is_manifest, ReportFindings, IsPlaced, AreNoDocument}
use Rattle.manifest_lint.specs.declared.diagnostic.Diagnostic.{Diagnostic}
use Rattle.manifest_lint.specs.declared.diagnostic.PlacedLabel.{PlacedLabel}
use Rattle.manifest_lint.specs.declared.diagnostic.Fix.{Fix}
use Rattle.manifest_answers.specs.declared.around.GivenMember.{GivenMember}
use Rattle.manifest_answers.specs.declared.around.GivenPackage.{GivenPackage}
use Rattle.manifest_answers.specs.declared.around.CheckRequest.{CheckRequest}
use Rattle.manifest_answers.specs.declared.refusal.Refusal.{Refusal}
use Rattle.manifest_answers.specs.declared.refusal.Refusal.TheVariants.{Root, Configuration}
use Rattle.manifest_answers.specs.Given.{AreListings}
use Rattle.manifest_answers.specs.Read.{IsDocument, IsNoDocument}
use Rattle.manifest_answers.specs.Inspected.{triple_data, index_number, step_data}
use Rattle.manifest_answers.specs.Placed.{range_data, located_data}
use Rattle.manifest_answers.specs.Edited.{splice_data, RefusesUnlessText}
use Rattle.manifest_answers.specs.Made.{Refusals, IsOutOfMemory, AreWithin, RefusesTagged, RefusesUnless}

-- an array of some values
abbrev pub array_data : {A : Type 0} → (A → Data) → List A → Data
array_data data_of xs = array (items_of (map data_of xs))

-- A LEVEL: 0 is an error, 1 a warning, 2 a note
abbrev pub level_number : Level → ℕ
level_number level.Error = 0
level_number level.Warning = 1
level_number level.Note = 2

-- A FILE: 0 is the manifest itself, 1 that of the root, 2 that of a member, whose index is the second number
abbrev pub file_number : File → ℕ
file_number file.Own = 0
file_number file.Root = 1
file_number (file.Member i) = 2

abbrev pub member_number : File → ℕ
member_number (file.Member i) = i
member_number f = 0

-- a text on the heap
abbrev pub text_data : String Global → Data
text_data s = string (string_bytes s)

-- A SECOND PLACE: its file, where in it, and what is said there
abbrev pub label_items : PlacedLabel → List Data
label_items l =
    integer (pos (file_number l.file)) ∷ integer (index_number (member_number l.file))
    ∷ range_data l.span ∷ text_data l.text ∷ []

abbrev pub label_data : PlacedLabel → Data
label_data l = array (items_of (label_items l))

-- A SUGGESTION: its words, whether it is certain, and what it replaces in the text
abbrev pub fix_data : Fix → Data
fix_data f =
    triple_data (text_data f.text) (boolean f.is_certain)
    (array_data (λ s. splice_data (splice_of s)) f.replaced.items)

-- where what belongs to the path stands; of none the empty array
abbrev pub place_data : Option Located → Data
place_data None = array no_items
place_data (Some l) = located_data l

-- A DIAGNOSTIC: its code, its level, its message, its path, the range that is meant, the ranges of what belongs to the
-- path, the second places, the notes and the suggestions
abbrev pub diagnostic_items : Diagnostic → List Data
diagnostic_items d =
    string d.code.name.now ∷ integer (pos (level_number d.level)) ∷ text_data d.message
    ∷ array_data (λ s. step_data (step_of s)) d.path.steps.items ∷ range_data d.span
    ∷ place_data d.located ∷ array_data label_data d.labels.items
    ∷ array_data text_data d.notes.items ∷ array_data fix_data d.fixes.items ∷ []

abbrev pub diagnostic_data : Diagnostic → Data
diagnostic_data d = array (items_of (diagnostic_items d))

abbrev pub diagnostics_data : List Diagnostic → Data
diagnostics_data ds = array_data diagnostic_data ds

-- paths and names are UTF-8
abbrev pub IsMemberText : GivenMember → Type 0
IsMemberText m = IsUtf8 m.path.now

pub record IsPackageText (p : GivenPackage) : Type 0 where
  pub path : IsUtf8 p.path.now
  pub name : IsUtf8 p.name.now

abbrev pub AreAroundTexts : CheckRequest → Type 0
AreAroundTexts r =
    AllByRecursion IsMemberText r.members.now × AllByRecursion IsPackageText r.packages.now

-- WHAT IS AROUND AND LOOKED AT: of a root and of a configuration the bytes are the document of this table, where there is
-- one; folders are listings, and paths and names are UTF-8
abbrev pub IsRootGiven : CheckRequest → Option (BTreeMap (String Global) Value) → Type 0
IsRootGiven r None = ¬ (r.has_root ≡ 1)
IsRootGiven r (Some t) = IsDocument r.root.now (table_view t)

abbrev pub IsConfigGiven : CheckRequest → Option (BTreeMap (String Global) Value) → Type 0
IsConfigGiven r None = r.has_config ≡ 0
IsConfigGiven r (Some t) = parse_document r.config.now ≡ Some (table_view t)

abbrev pub AreFoldersGiven : CheckRequest → Option Folders → Type 0
AreFoldersGiven r None = r.has_folders ≡ 0
AreFoldersGiven r (Some _) = AreListings r.folders.now

-- the root is no document
abbrev pub RefusesRoot : Text → Refusals
RefusesRoot bytes (Root e) = IsNoDocument bytes e
RefusesRoot bytes _ = ⊥

-- the configuration is no document, or memory ran out
abbrev pub RefusesConfiguration : Text → Refusals
RefusesConfiguration bytes Configuration = AreNoDocument bytes
RefusesConfiguration bytes e = IsOutOfMemory e

-- what is around the manifest is refused: one of these two, folders that are no listings, or paths and names that are not
-- UTF-8; or memory ran out
abbrev pub RefusesAround : CheckRequest → Refusals
RefusesAround r e =
    RefusesRoot r.root.now e ⊎ RefusesConfiguration r.config.now e
    ⊎ RefusesUnless (AreListings r.folders.now) e ⊎ RefusesUnlessText (AreAroundTexts r) e

-- it is accepted where it is passed in; but of the root no more is said than above, since that of a root is not looked at
pub record IsAccepted (r : CheckRequest) : Type 0 where
  pub config : ¬ (r.has_config ≡ 0) → (m : Members) × (parse_document r.config.now ≡ Some m)
  pub folders : ¬ (r.has_folders ≡ 0) → AreListings r.folders.now
  pub members : ¬ (r.has_members ≡ 0) → AllByRecursion IsMemberText r.members.now
  pub packages : ¬ (r.has_packages ≡ 0) → AllByRecursion IsPackageText r.packages.now

-- THE DIAGNOSTICS OF A DOCUMENT: of the schema exactly what it finds, and each at its place in the text
abbrev pub AreOfDocument : Text → Members → List Diagnostic → Type 0
AreOfDocument bytes document ds =
    (IsTrue (is_manifest document) → ReportFindings document ds) × All (IsPlaced bytes) ds

-- and of a request, whose surroundings are accepted; of bytes that are no document the one that says why
abbrev pub AreDiagnosticsOf : CheckRequest → List Diagnostic → Type 0
AreDiagnosticsOf r ds =
    ((document : Members) × (parse_document r.bytes.now ≡ Some document)
    × AreOfDocument r.bytes.now document ds × IsAccepted r)
    ⊎ (AreNoDocument r.bytes.now × (length ds ≡ 1))

-- THE TEXT is the tagged bytes of the diagnostics
abbrev pub GivesDiagnostics : CheckRequest → Text → Type 0
GivesDiagnostics r text =
    (ds : List Diagnostic) × AreDiagnosticsOf r ds
    × AreWithin r.most (encoded (diagnostics_data ds)) text

abbrev pub RefusesDiagnostics : CheckRequest → Refusals
RefusesDiagnostics r e =
    RefusesAround r e
    ⊎ ((ds : List Diagnostic) × AreDiagnosticsOf r ds
    × RefusesTagged r.most (encoded (diagnostics_data ds)) e)
