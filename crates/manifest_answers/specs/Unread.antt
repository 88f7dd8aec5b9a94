-- The table of a manifest whose metadata is not looked at, and the document that the bytes are, whatever it means.
use Rattle.manifest_schema.specs.Prelude.{Data, Members, table, Text, Kind, tree_of, unread, Manifest, written_manifest}
use Rattle.std.specs.Prelude.{◌≡◌, ◌⊎◌, ℕ, List, Some}
use Rattle.manifest_bytes.specs.Encoded.{encoded}
use Rattle.manifest_bytes.specs.Decoded.{decoded}
use Rattle.manifest_answers.specs.Read.{IsDocument, IsNoDocument, IsSourceOf, RefusesSource}
use Rattle.manifest_answers.specs.Made.{Refusals, OfBytes, AreWithin, RefusesTagged}

-- METADATA IS NOT LOOKED AT: whatever it is, the empty table stands for it
abbrev pub no_metadata : Kind Data
no_metadata = tree_of unread

-- the table that is written of the manifest
abbrev pub unread_table : Manifest → Data
unread_table m = written_manifest no_metadata no_metadata m

-- the text is the tagged bytes of the table of a manifest that the bytes mean, and they hold that table
abbrev pub GivesUnread : ℕ → List ℕ → Text → Type 0
GivesUnread most bytes text =
    (m : Manifest) × IsSourceOf no_metadata no_metadata bytes m
    × AreWithin most (encoded (unread_table m)) text × (decoded text ≡ Some (unread_table m))

-- the bytes are refused as they are read, or the tagged bytes as they are made
abbrev pub RefusesUnread : ℕ → List ℕ → Refusals
RefusesUnread most bytes e =
    OfBytes (RefusesSource no_metadata no_metadata bytes) e
    ⊎ ((m : Manifest) × IsSourceOf no_metadata no_metadata bytes m
    × RefusesTagged most (encoded (unread_table m)) e)

-- THE DOCUMENT: the text is the tagged bytes of the table that the bytes are
abbrev pub GivesDocument : ℕ → List ℕ → Text → Type 0
GivesDocument most bytes text =
    (document : Members) × IsDocument bytes document
    × AreWithin most (encoded (table document)) text

-- the bytes are refused as they are read, or the tagged bytes as they are made
abbrev pub RefusesDocument : ℕ → List ℕ → Refusals
RefusesDocument most bytes e =
    OfBytes (IsNoDocument bytes) e
    ⊎ ((document : Members) × IsDocument bytes document
    × RefusesTagged most (encoded (table document)) e)
