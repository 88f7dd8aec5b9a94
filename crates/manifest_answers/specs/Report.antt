-- The numbers and the text by which an answer reports a refusal. The comment of a number is its name,
-- why it is reported, and what the text is; `scripts/keys --write` makes its copies of it.
use Rattle.manifest_schema.specs.Prelude.{error_kind, ErrorKind, NotFound, OutOfMemory, IsMemory, Text, Cause, wrong_kind, missing, two_spellings, not_a_choice, out_of_range, not_true, holds_float, metadata_fault, path_text}
use Rattle.std.specs.Prelude.{◌≡◌, ℕ, ◌+◌, [], Bool, true, false, if◌then◌else◌, string_bytes}
use Rattle.toml.specs.Errors.{span_start, span_end}
use Rattle.toml.specs.declared.de.error.Error.{Error as TomlError}
use Rattle.manifest_fault.specs.Faults.{path_of, cause_of}
use Rattle.manifest_fault.specs.declared.fault.SchemaFault.{SchemaFault}
use Rattle.manifest_fault.specs.declared.error.Error.{Error}
use Rattle.manifest_fault.specs.declared.error.Error.TheVariants as fault
use Rattle.manifest_fault.specs.declared.error.ParseFault.TheVariants.{Toml, Schema}
use Rattle.manifest_inherit.specs.declared.error.ResolveError.{ResolveError}
use Rattle.manifest_inherit.specs.declared.error.ResolveError.TheVariants.{Refused, Memory as NoMemory}
use Rattle.manifest_inherit.specs.declared.error.Refusal.{Refusal as Unresolved}
use Rattle.manifest_inherit.specs.declared.error.Refusal.TheVariants as unresolved
use Rattle.manifest_answers.specs.declared.refusal.Refusal.{Refusal}
use Rattle.manifest_inherit.specs.declared.error.FinishError.{FinishError}
use Rattle.manifest_inherit.specs.declared.error.FinishError.TheVariants as unfinished
use Rattle.manifest_answers.specs.declared.refusal.InputError.{InputError}
use Rattle.manifest_answers.specs.declared.refusal.InputError.TheVariants as unread
use Rattle.manifest_places.specs.declared.edits.EditError.{EditError}
use Rattle.manifest_places.specs.declared.edits.EditError.TheVariants as unedited
use Rattle.manifest_answers.specs.declared.refusal.Refusal.TheVariants.{Bytes, Root, Listings, Finishing, Printing, TooLong, Edits, NotText, Offsets, Configuration, Memory}
use Rattle.manifest_answers.specs.declared.reporting.Report.{Report}

-- THE NUMBER of a cause
abbrev pub cause_number : Cause → ℕ
-- WRONG_KIND: the value is of another kind, as a number for a text
cause_number wrong_kind = 1
-- MISSING: a required key is absent; the path ends with it
cause_number missing = 2
-- TWO_SPELLINGS: a table has a key by both spellings, as `default-features` and `default_features`
cause_number two_spellings = 3
-- NOT_A_CHOICE: the text is none of those that may stand there, as `edition = "2020"`
cause_number not_a_choice = 4
-- OUT_OF_RANGE: the whole number is too large or too small
cause_number out_of_range = 5
-- NOT_TRUE: a boolean that has to be true is false
cause_number not_true = 6
-- HOLDS_FLOAT: a value that is kept as it is, as metadata, holds a float
cause_number holds_float = 7
-- METADATA: the type of the metadata refuses it; no call of the library has such a type
cause_number metadata_fault = 8

-- the number of a listing's fault, as the caller gives it
abbrev pub kind_number : ErrorKind → ℕ
-- NOT_FOUND: not found
kind_number NotFound = 1
-- OUT_OF_MEMORY: out of memory
kind_number OutOfMemory = 2
-- OTHER_FAULT: another
kind_number _ = 3

-- a status, where it is the root that is refused
abbrev pub at_root : Bool → ℕ → ℕ
at_root is_root status = if is_root then status + 16 else status

-- WHAT IS REPORTED: this status, with this cause and this text, and no place in the bytes
abbrev pub IsReport : Report → ℕ → ℕ → Text → Type 0
IsReport t status cause text =
    (t.status ≡ status) × (t.cause ≡ cause) × (t.text.items ≡ text) × (t.start ≡ 0) × (t.end ≡ 0)

-- MEMORY: no memory was left
abbrev pub ReportsMemory : Report → Type 0
ReportsMemory t = IsReport t 6 0 []

-- a text that is no TOML, by the words of `toml` and the place in it; running out of memory is reported as such
pub record ReportsToml (is_root : Bool) (e : TomlError) (t : Report) : Type 0 where
  pub refused : ¬ IsMemory e
  -- NO_TOML: the bytes are no TOML; the text is the message of `toml`
  pub status : t.status ≡ at_root is_root 1
  pub cause : t.cause ≡ 0
  pub start : t.start ≡ span_start e
  pub end : t.end ≡ span_end e

-- SCHEMA: the bytes are TOML and no manifest; the text is the key path, as `package.authors[0]`
abbrev pub ReportsSchema : Bool → SchemaFault → Report → Type 0
ReportsSchema is_root f t =
    IsReport t (at_root is_root 2) (cause_number (cause_of f.cause)) (path_text (path_of f.path))

-- THE ERROR of a manifest or of its root
abbrev pub ReportsError : Bool → Error → Report → Type 0
ReportsError is_root (fault.Parse (Toml e)) t = ReportsToml is_root e.value t
ReportsError is_root (fault.Parse (Schema f)) t = ReportsSchema is_root f t
-- IO: a folder has a fault that refuses the completion
ReportsError is_root (fault.Io e) t = IsReport t 3 (kind_number (error_kind e)) []
-- NOT_UTF8: the bytes are not UTF-8
ReportsError is_root (fault.Utf8 e) t = IsReport t (at_root is_root 4) 0 []
-- OTHER: a declared library has no file; the text is a sentence that says so
ReportsError is_root (fault.Other s) t = IsReport t 5 0 (string_bytes s)
ReportsError is_root (fault.Memory e) t = ReportsMemory t

-- why a manifest is not printed
abbrev pub ReportsPrinting : Error → Report → Type 0
-- DATE: the manifest keeps a date-time that no text can have; the text is a sentence that says so
ReportsPrinting (fault.Other s) t = IsReport t 7 0 (string_bytes s)
ReportsPrinting e t = ReportsError false e t

-- THE STATUS by which it is reported what cannot be inherited, and the text of that status
abbrev pub refusal_status : Unresolved → ℕ
-- NOT_IN_WORKSPACE: the workspace does not have what is inherited; the text is its key, as
-- `version`, or the name of a dependency, or `lints`
refusal_status (unresolved.NotInWorkspace s) = 10
-- INHERITED_IN_WORKSPACE: the workspace inherits its own dependency; the text is its name
refusal_status (unresolved.InheritedInWorkspace s) = 11
-- MIXED_LINTS: lints are inherited, and the manifest has lints of a tool as well
refusal_status unresolved.MixedLints = 12
-- TOOL_NAMED_WORKSPACE: lints are inherited, and those of the workspace have a tool `workspace`
refusal_status unresolved.ToolNamedWorkspace = 13

abbrev pub refusal_name : Unresolved → Text
refusal_name (unresolved.NotInWorkspace s) = string_bytes s
refusal_name (unresolved.InheritedInWorkspace s) = string_bytes s
refusal_name _ = []

-- what cannot be inherited
abbrev pub TellsUnresolved : Unresolved → Report → Type 0
TellsUnresolved r t = IsReport t (refusal_status r) 0 (refusal_name r)

-- why it is not resolved: the refusal, without its path
abbrev pub ReportsResolving : ResolveError → Report → Type 0
ReportsResolving (Refused f) t = TellsUnresolved f.refusal t
ReportsResolving (NoMemory e) t = ReportsMemory t

-- why bytes are no manifest
abbrev pub ReportsInput : Bool → InputError → Report → Type 0
ReportsInput is_root (unread.Manifest e) t = ReportsError is_root e t
-- UNTAGGED: bytes that should be a tagged table are not one: a text in them is not UTF-8, the keys
-- of a table do not ascend, a number is not written in the shortest way, or they end too early or
-- too late
ReportsInput is_root unread.Untagged t = IsReport t (at_root is_root 14) 0 []
-- TOO_DEEP: arrays and tables stand in one another more than 128 deep, or a dotted key leads deeper
-- than 112 after a header of an array of tables
ReportsInput is_root unread.TooDeep t = IsReport t (at_root is_root 15) 0 []

-- why a manifest is not finished
abbrev pub ReportsFinishing : FinishError → Report → Type 0
ReportsFinishing (unfinished.Manifest e) t = ReportsError false e t
-- NO_WORKSPACE: the root has no `workspace`
ReportsFinishing unfinished.NoWorkspace t = IsReport t 9 0 []
ReportsFinishing (unfinished.Resolve e) t = ReportsResolving e t

-- why edits are not made
abbrev pub ReportsEdits : EditError → Report → Type 0
-- NOT_A_VALUE: what an edit puts in is not one value of TOML and nothing else
ReportsEdits unedited.NotAValue t = IsReport t 33 0 []
-- NO_PLACE: nothing that this edit can change is written at its path
ReportsEdits unedited.NoPlace t = IsReport t 34 0 []
-- OVERLAP: two edits touch one place, or one lies within what another one replaces
ReportsEdits unedited.Overlap t = IsReport t 35 0 []
-- NOT_EDITED: the new text would not be the document with these changes, as where a new key is
-- there already
ReportsEdits _ t = IsReport t 36 0 []

-- EACH REFUSAL
abbrev pub Reports : Refusal → Report → Type 0
Reports (Bytes e) t = ReportsInput false e t
Reports (Root e) t = ReportsInput true e t
-- LISTINGS: the folders are no listings: a path or a name is not UTF-8, the names of a folder do
-- not ascend in the order of their bytes, or two folders have one path
Reports Listings t = IsReport t 8 0 []
Reports (Finishing e) t = ReportsFinishing e t
Reports (Printing e) t = ReportsPrinting e t
-- TOO_LONG: what is asked for could take more bytes than `most`, or what is inherited does
Reports TooLong t = IsReport t 32 0 []
Reports (Edits e) t = ReportsEdits e t
-- NOT_TEXT: a key or a text of an edit is not UTF-8, or a path or a name of what is around a manifest
Reports NotText t = IsReport t 37 0 []
-- OFFSETS: the offsets do not ascend, or one is over the end of the bytes
Reports Offsets t = IsReport t 38 0 []
-- CONFIGURATION: the configuration of Cargo is no TOML, or nests too deep
Reports Configuration t = IsReport t 39 0 []
Reports (Memory e) t = ReportsMemory t
