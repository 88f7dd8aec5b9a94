-- What diagnostics say of a document: of the schema exactly what is found in it, each at its place.
use Rattle.manifest_schema.specs.Prelude.{Text, Members, table_view, manifest_findings, raw, tree_of}
use Rattle.manifest_schema.specs.Meaning.{has}
use Rattle.manifest_schema.specs.Findings.{Finding, fault, ignored, unused}
use Rattle.std.specs.Prelude.{◌≡◌, ◌⊎◌, ◌||◌, Bool, true, List, [], ◌∷◌, flat_map, None, Some, IfSome, codes, string_bytes, IsUtf8}
use Rattle.toml.specs.Parse.{parse_document}
use Rattle.manifest_fault.specs.Faults.{path_of, cause_of}
use Rattle.manifest_fault.specs.Found.{choices_of}
use Rattle.manifest_places.specs.Finding.{AreFound}
use Rattle.manifest_places.specs.Located.{IsLocated}
use Rattle.manifest_places.specs.Paths.{Path}
use Rattle.manifest_places.specs.declared.finding.Places.{Places}
use Rattle.manifest_places.specs.declared.located.Located.{Located}
use Rattle.manifest_nesting.specs.Nesting.{nests_too_deep}
use Rattle.manifest_lint.specs.declared.document.Document.{Document}
use Rattle.manifest_lint.specs.declared.document.Unread.{Unread}
use Rattle.manifest_lint.specs.declared.document.Unread.TheVariants.{Memory}
use Rattle.manifest_lint.specs.declared.diagnostic.Diagnostic.{Diagnostic}
use Rattle.manifest_lint.specs.declared.diagnostic.Subject.{Subject}
use Rattle.manifest_lint.specs.declared.diagnostic.Subject.TheVariants.{Fault, Ignored, Unused, Rule}

-- THE BYTES ARE THE DOCUMENT: its text, whose table is that of the text
abbrev pub IsDocument : Text → Document → Type 0
IsDocument bytes d =
    (string_bytes d.text ≡ bytes) × (parse_document bytes ≡ Some (table_view d.table))

-- no document is: bytes that are not UTF-8, a text that is no TOML, and one that nests too deep, as its bytes say
abbrev pub AreNoDocument : Text → Type 0
AreNoDocument bytes =
    ¬ IsUtf8 bytes ⊎ (parse_document bytes ≡ None) ⊎ (nests_too_deep bytes ≡ true)

-- why the bytes are no document; or memory ran out
abbrev pub IsUnread : Text → Unread → Type 0
IsUnread bytes (Memory e) = Unit {0}
IsUnread bytes u = AreNoDocument bytes

-- the finding that a diagnostic of this subject tells, by its path; a rule tells none
abbrev pub reported_by : Subject → Diagnostic → List Finding
reported_by (Fault c ws) d = fault (path_of d.path) (cause_of c) (choices_of ws) ∷ []
reported_by (Ignored c ws) d = ignored (path_of d.path) (cause_of c) (choices_of ws) ∷ []
reported_by Unused d = unused (path_of d.path) ∷ []
reported_by Rule d = []

-- THE FINDINGS that some diagnostics tell, in their order
abbrev pub findings_reported : List Diagnostic → List Finding
findings_reported ds = flat_map (λ d. reported_by d.subject d) ds

-- the diagnostics of the schema are what is found in the document, all of it and no more, in its order
abbrev pub ReportFindings : Members → List Diagnostic → Type 0
ReportFindings document ds =
    findings_reported ds ≡ manifest_findings (tree_of raw) (tree_of raw) document

-- THE DOCUMENT IS A MANIFEST OF TODAY: it has a package (by its name of today or the old one) or a workspace
abbrev pub is_manifest : Members → Bool
is_manifest document =
    (has (codes "package") document || has (codes "project") document)
    || has (codes "workspace") document

-- this belongs to the path, by places of the text
abbrev pub IsAt : Text → Path → Located → Type 0
IsAt text p l = (places : Places) × AreFound text places × IsLocated places p l

-- THE PLACE of a diagnostic, where it has one, is in the text that of its path
abbrev pub IsPlaced : Text → Diagnostic → Type 0
IsPlaced text d = IfSome d.located (IsAt text (path_of d.path))
