-- What is promised of date-times: where a document is read, and where a manifest is completed.
use Rattle.manifest_schema.specs.Prelude.{Members, raw, tree_of, Manifest, KeepsValidDates}
use Rattle.std.specs.Prelude.{◌≡◌, ℕ, List, Some}
use Rattle.toml.specs.Parse.{parse_document}
use Rattle.manifest_schema.specs.Dates.{MembersHaveValidDates}
use Rattle.manifest_completion.specs.Listings.{ListingMap}
use Rattle.manifest_completion.specs.Completed.{completed_to, completed}
use Rattle.cargo_manifest.specs.Answers.{IsDocumentOf}

-- each date-time of a document is one that TOML can write
abbrev pub ParsedDatesAreValid : Type 0
ParsedDatesAreValid =
    (text : List ℕ) (ms : Members) → parse_document text ≡ Some ms → MembersHaveValidDates ms

-- so is each that the manifest of a document keeps
abbrev pub ReadDatesAreValid : Type 0
ReadDatesAreValid =
    (bytes : List ℕ) (m : Manifest) → IsDocumentOf (tree_of raw) (tree_of raw) bytes m
    → KeepsValidDates m

-- a completed manifest keeps no other date-time than the manifest did
abbrev pub CompletedDatesAreValid : Type 0
CompletedDatesAreValid =
    (m n : Manifest) (l : ListingMap) → KeepsValidDates m → completed m l ≡ completed_to n
    → KeepsValidDates n
