-- A key path: the steps from a table to a value inside it, and the value that it leads to.
use Rattle.std.specs.Prelude.{◌≡◌, [], ◌∷◌, ◌⊎◌, List, Option, Some, option_map, option_and_then, map}
use Rattle.toml.specs.Data.{Data, table, get, at}
use Rattle.toml.specs.Parse.{parse_document}
use Rattle.manifest_fault.specs.declared.fault.Step.{Step as CodeStep}
pub use Rattle.manifest_schema.specs.Paths.{Text, Step, key, index, Path}
pub use Rattle.manifest_fault.specs.Faults.{step_of}

-- the path that the steps of the code are
abbrev pub path_of : List CodeStep → Path
path_of steps = map step_of steps

-- the document that a text is, as a table
abbrev pub document : Text → Option Data
document text = option_map table (parse_document text)

-- the value at the path
abbrev pub value_at : Path → Data → Option Data
value_at [] d = Some d
value_at (key k ∷ p) d = option_and_then (value_at p) (get k d)
value_at (index i ∷ p) d = option_and_then (value_at p) (at i d)

-- the two paths part: each goes on where they differ, so that neither leads into the value of the
-- other
abbrev pub Apart : Path → Path → Type 0
Apart (s ∷ p) (t ∷ q) = (s ≡ t → ⊥) ⊎ ((s ≡ t) × Apart p q)
Apart _ _ = ⊥
