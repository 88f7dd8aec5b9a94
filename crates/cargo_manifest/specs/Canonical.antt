-- What a canonical text is of, where metadata is kept as it is.
use Rattle.manifest_schema.specs.Prelude.{Members, members_depth, IsDocumentText, Manifest, rewritten as rewritten_by, raw_metadata}
use Rattle.std.specs.Prelude.{◌≡◌, ℕ, ◌≤◌, List, false, Some}
use Rattle.toml.specs.Parse.{parse_document}
use Rattle.cargo_manifest.specs.Folders.{IsRead}

-- the one table of a manifest: the rewritten table of what means it
abbrev pub rewritten : Manifest → Members
rewritten = rewritten_by raw_metadata raw_metadata

-- the bytes are a document of a table that means the manifest
abbrev pub Means : List ℕ → Manifest → Type 0
Means = IsRead raw_metadata raw_metadata

-- the bytes are a document of an accepted table
abbrev pub IsAccepted : List ℕ → Type 0
IsAccepted bytes = (m : Manifest) × Means bytes m

-- the text is the document that `toml` writes of the manifest's table, and reads as that table
pub record IsTextOf (m : Manifest) (text : List ℕ) : Type 0 where
  pub document : IsDocumentText false (rewritten m) text
  pub reads_back : members_depth (rewritten m) ≤ 80 → parse_document text ≡ Some (rewritten m)
