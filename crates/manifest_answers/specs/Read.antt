-- What the bytes of a call are, and why they are refused.
use Rattle.manifest_schema.specs.Prelude.{AllocError, Data, Members, members_depth, IsMemory, IsWithin, Text, Kind, Faults, first_found, form, Manifest, manifest_rows, means, reads_manifest, raw_metadata}
use Rattle.std.specs.Prelude.{◌≡◌, ◌⊎◌, ◌<◌, ◌≤◌, Some, None, true, false, IsUtf8, length}
use Rattle.toml.specs.Parse.{parse_document}
use Rattle.manifest_fault.specs.Refusals.{RefusedIn, IsOutOfMemory}
use Rattle.manifest_fault.specs.declared.error.Error.{Error}
use Rattle.manifest_fault.specs.declared.error.Error.TheVariants.{Parse, Utf8, Memory}
use Rattle.manifest_fault.specs.declared.error.ParseFault.TheVariants.{Toml as NoToml, Schema}
use Rattle.cargo_manifest.specs.Answers.{IsFaulty}
use Rattle.toml.specs.Data.{depth}
use Rattle.manifest_bytes.specs.Encoded.{encoded}
use Rattle.manifest_bytes.specs.Held.{FitsValue}
use Rattle.manifest_answers.specs.declared.reading.Input.{Input}
use Rattle.manifest_answers.specs.declared.reading.Input.TheVariants.{Toml, Tagged}
use Rattle.manifest_answers.specs.declared.refusal.InputError.{InputError}
use Rattle.manifest_answers.specs.declared.refusal.InputError.TheVariants.{Manifest as NoManifest, Untagged, TooDeep}
use Rattle.manifest_nesting.specs.Nesting.{nests_too_deep}

-- memory ran out
abbrev pub ReadingRanOut : InputError → Type 0
ReadingRanOut e = (refused : AllocError) × (e ≡ NoManifest (Memory refused))

-- THE BYTES ARE THE DOCUMENT of the table, which nests at most 128 deep, as its bytes say before it is parsed
pub record IsDocument (bytes : Text) (document : Members) : Type 0 where
  pub utf8 : IsUtf8 bytes
  pub counted : nests_too_deep bytes ≡ false
  pub parsed : parse_document bytes ≡ Some document
  pub shallow : members_depth document ≤ 128

-- the bytes nest too deep: they say so themselves, or they are a document of a table that nests deeper
abbrev pub AreTooDeep : Text → Type 0
AreTooDeep bytes =
    (nests_too_deep bytes ≡ true)
    ⊎ ((document : Members) × (parse_document bytes ≡ Some document)
    × (128 < members_depth document))

-- the text is no such document: it nests too deep; it is no TOML, at a place in it (where that is said because
-- memory ran out, it may be TOML); or memory ran out
abbrev pub RefusesToParse : Text → InputError → Type 0
RefusesToParse text TooDeep = AreTooDeep text
RefusesToParse text (NoManifest (Parse (NoToml e))) =
    IsWithin text e.value × (¬ IsMemory e.value → parse_document text ≡ None)
RefusesToParse text (NoManifest (Memory e)) = Unit {0}
RefusesToParse text _ = ⊥

-- the bytes are no such document: they are not UTF-8, or as above
abbrev pub IsNoDocument : Text → InputError → Type 0
IsNoDocument bytes (NoManifest (Utf8 e)) = ¬ IsUtf8 bytes
IsNoDocument bytes e = RefusesToParse bytes e

-- THE BYTES ARE A TEXT OF THE MANIFEST: a document of a table that means it. K and W are the kinds of metadata
pub record IsSourceOf (K W : Kind Data) (bytes : Text) (m : Manifest) : Type 0 where
  pub document : Members
  pub is_document : IsDocument bytes document
  pub meant : means K W document m

-- the table means none: this is its first fault, or memory ran out
abbrev pub RefusesMeaning : Kind Data → Kind Data → Members → InputError → Type 0
RefusesMeaning K W document (NoManifest (Parse (Schema f))) = IsFaulty K W document f
RefusesMeaning K W document (NoManifest (Memory e)) = Unit {0}
RefusesMeaning K W document _ = ⊥

-- they are not: they are a document of a table with this first fault, or no document
abbrev pub RefusesSource : Kind Data → Kind Data → Text → InputError → Type 0
RefusesSource K W bytes (NoManifest (Parse (Schema f))) =
    (document : Members) × IsDocument bytes document × IsFaulty K W document f
RefusesSource K W bytes e = IsNoDocument bytes e

-- THE BYTES ARE TAGGED BYTES OF THE MANIFEST: those of a table that the form of a manifest reads as it
pub record IsTaggedOf (bytes : Text) (m : Manifest) : Type 0 where
  pub value : Data
  pub tagged : bytes ≡ encoded value
  pub read : reads_manifest raw_metadata raw_metadata value m

-- the first fault that the form of a manifest finds in a value
abbrev pub first_fault : Data → Faults
first_fault value =
    first_found ((form (manifest_rows raw_metadata raw_metadata)).findings value)

-- the value is refused: this is its first fault, or memory ran out
abbrev pub RefusesValue : Data → InputError → Type 0
RefusesValue value (NoManifest e) =
    IsOutOfMemory e ⊎ RefusedIn (first_fault value) e
RefusesValue value _ = ⊥

-- the bytes are those of a value whose first fault this is
abbrev pub HoldFault : Text → Error → Type 0
HoldFault bytes e =
    (value : Data) × (bytes ≡ encoded value) × RefusedIn (first_fault value) e

-- the bytes are those of no value
abbrev pub AreUntagged : Text → Type 0
AreUntagged bytes = (d : Data) → FitsValue d → bytes ≡ encoded d → ⊥

-- a value whose bytes they are nests more than 128 deep in its whole table; in any case they are more bytes than that
abbrev pub AreTaggedTooDeep : Text → Type 0
AreTaggedTooDeep bytes =
    ((d : Data) → FitsValue d → bytes ≡ encoded d → 129 < depth d) × (129 < length bytes)

-- they are not: they are the bytes of a value with this first fault, of none, or of one that nests too deep; or memory
-- ran out
abbrev pub RefusesTaggedInput : Text → InputError → Type 0
RefusesTaggedInput bytes (NoManifest e) = IsOutOfMemory e ⊎ HoldFault bytes e
RefusesTaggedInput bytes Untagged = AreUntagged bytes
RefusesTaggedInput bytes TooDeep = AreTaggedTooDeep bytes

-- THE BYTES ARE THE MANIFEST, one way or the other
abbrev pub Are : Input → Text → Manifest → Type 0
Are Toml = IsSourceOf raw_metadata raw_metadata
Are Tagged = IsTaggedOf

abbrev pub RefusesToRead : Input → Text → InputError → Type 0
RefusesToRead Toml = RefusesSource raw_metadata raw_metadata
RefusesToRead Tagged = RefusesTaggedInput
