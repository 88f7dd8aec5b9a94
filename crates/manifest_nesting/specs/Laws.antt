-- WHAT THE COUNTING OF LEVELS PROMISES.
use Rattle.std.specs.Prelude.{◌≡◌, ℕ, ◌≤◌, true, false, List, Some}
use Rattle.toml_parser.specs.Strings.{starts_string, quoted}
use Rattle.toml.specs.Data.{Members, members_depth}
use Rattle.toml.specs.Text.{IsDocumentText}
use Rattle.manifest_schema.specs.Kinds.{plain_members}
use Rattle.manifest_nesting.specs.Skipped.{after_string}
use Rattle.manifest_nesting.specs.Nesting.{nests_too_deep, has_few_marks}

-- a string that is read is skipped
abbrev pub StringsAreSkipped : Type 0
StringsAreSkipped =
    (text s rest : List ℕ) → starts_string text ≡ true → quoted text ≡ Some (s, rest)
    → after_string text ≡ rest

-- what is written of a table without floats, at most 128 levels deep, does not nest too deep
abbrev pub PrintedNestsAsItIs : Type 0
PrintedNestsAsItIs =
    (ms : Members) (text : List ℕ) → plain_members ms ≡ true → members_depth ms ≤ 128
    → IsDocumentText false ms text → nests_too_deep text ≡ false

-- a text of few marks does not nest too deep
abbrev pub FewMarksNestNoDeeper : Type 0
FewMarksNestNoDeeper =
    (text : List ℕ) → has_few_marks text ≡ true → nests_too_deep text ≡ false
