-- What each answer says of the bytes that were read. K and W are the kinds of metadata of package and workspace.
use Rattle.manifest_schema.specs.Prelude.{Data, table, Members, key, form, package_rows, Finding, found_under, foremost, manifest_faults, members_depth, members_have_valid_dates, IsDocumentText, IsMemory, IsWithin, Kind, tree_of, Manifest, means, rewritten, well_formed, is_headed}
use Rattle.std.specs.Prelude.{◌≡◌, ◌<◌, ◌≤◌, ◌⊎◌, ℕ, List, length, drop, true, false, Option, Some, None, IsUtf8, codes, string_bytes}
use Rattle.std.specs.Str.{IsValidUpTo, valid_up_to, error_len}
use Rattle.std.specs.Str.Lossy.{utf8_error_len}
use Rattle.toml.specs.Parse.{parse_document}
use Rattle.manifest_fault.specs.declared.fault.SchemaFault.{SchemaFault}
use Rattle.manifest_fault.specs.Faults.{IsOneOf}
use Rattle.manifest_fault.specs.declared.error.Error.{Error}
use Rattle.manifest_fault.specs.declared.error.Error.TheVariants.{Parse, Utf8, Other, Memory}
use Rattle.manifest_fault.specs.declared.error.ParseFault.TheVariants.{Toml, Schema}
use Rattle.cargo_manifest.specs.Printed.{printed_bound}
use Rattle.cargo_manifest.specs.Whole.{manifest_content}
use Rattle.cargo_manifest.specs.declared.manifest.Manifest.{Manifest as ManifestOfCode}

-- the bytes are a document of a table that means the manifest
pub record IsDocumentOf (K W : Kind Data) (bytes : List ℕ) (m : Manifest) : Type 0 where
  pub document : Members
  pub parsed : parse_document bytes ≡ Some document
  pub meant : means K W document m

-- this is the first fault of the table, which means no manifest
pub record IsFaulty (K W : Kind Data) (document : Members) (f : SchemaFault) : Type 0 where
  pub stands : IsOneOf (foremost (manifest_faults K W document)) f
  pub nothing : (m : Manifest) → means K W document m → ⊥

-- the refusal of a table: by the schema only with its first fault; else out of memory
abbrev pub RefusesTable : Kind Data → Kind Data → Members → Error → Type 0
RefusesTable K W document (Parse (Schema f)) = IsFaulty K W document f
RefusesTable K W document (Memory e) = Unit {0}
RefusesTable K W document _ = ⊥

-- the bytes are a document of a table that is refused so
pub record RefusesTableOf (K W : Kind Data) (bytes : List ℕ) (e : Error) : Type 0 where
  pub document : Members
  pub parsed : parse_document bytes ≡ Some document
  pub refused : RefusesTable K W document e

-- a text is refused: as no TOML, at a place in it, where it is no document or memory ran out;
-- for the first fault of its table; or as out of memory
abbrev pub RefusesText : Kind Data → Kind Data → List ℕ → Error → Type 0
RefusesText K W text (Parse (Toml e)) =
    IsWithin text e.value × (¬ IsMemory e.value → parse_document text ≡ None)
RefusesText K W text (Parse (Schema f)) = RefusesTableOf K W text (Parse (Schema f))
RefusesText K W text (Memory e) = Unit {0}
RefusesText K W text _ = ⊥

-- bytes are not UTF-8: up to where they are, and how many are wrong there, or none where they end within a character
pub record IsNotUtf8 (bytes : List ℕ) (at : ℕ) (wrong : Option ℕ) : Type 0 where
  pub refused : ¬ IsUtf8 bytes
  pub place : IsValidUpTo bytes at
  pub length : wrong ≡ utf8_error_len (drop at bytes)

-- the refusal of bytes: as UTF-8 exactly where they are not, with the place, else as that of a text
abbrev pub Refuses : Kind Data → Kind Data → List ℕ → Error → Type 0
Refuses K W bytes (Utf8 e) = IsNotUtf8 bytes (valid_up_to e) (error_len e)
Refuses K W bytes e = IsUtf8 bytes × RefusesText K W bytes e

-- what is found of the package of a table without a header, which is `project` or else the whole table
abbrev pub old_package_findings : Kind Data → Members → Option Data → List Finding
old_package_findings K ms (Some d) =
    found_under (key (codes "project")) ((form (package_rows K)).findings d)
old_package_findings K ms None = (form (package_rows K)).findings (table ms)

-- the table that is written of a manifest of the code, whose metadata has the contents p and w of these kinds
abbrev pub written_of : {P W A B : Type 0}
    → Kind A → Kind B → (P → A) → (W → B) → ManifestOfCode P W → Members
written_of K W p w m =
    rewritten (tree_of K) (tree_of W)
    (manifest_content (λ x. K.written (p x)) (λ x. W.written (w x)) m)

-- a text is read as the manifest: if well-formed, with a package or a workspace, and a table at most 80 deep
abbrev pub ReadsAs : Kind Data → Kind Data → Manifest → List ℕ → Type 0
ReadsAs K W m text =
    well_formed K W m → is_headed m ≡ true → members_depth (rewritten K W m) ≤ 80
    → IsDocumentOf K W text m

-- the refusal to print a table: it has a date-time that TOML cannot write, or memory ran out
abbrev pub RefusesToPrint : Members → Error → Type 0
RefusesToPrint t (Other s) =
    (members_have_valid_dates t ≡ false)
    × (string_bytes s ≡ codes "a date-time of a kept value is not a valid date")
RefusesToPrint t (Memory e) = Unit {0}
RefusesToPrint t _ = ⊥

-- the text of the table could take more bytes than this: the bound of it does, or such a text
abbrev pub IsOver : ℕ → Members → Type 0
IsOver most t =
    (most < printed_bound t)
    ⊎ ((text : List ℕ) × IsDocumentText false t text × (most < length text))

-- the text is that of the table, and takes at most a given number of bytes
pub record IsTextWithin (most : ℕ) (t : Members) (text : List ℕ) : Type 0 where
  pub document : IsDocumentText false t text
  pub reads_back : members_depth t ≤ 80 → parse_document text ≡ Some t
  pub within : length text ≤ most
