-- What a run of the program leaves.
use Rattle.manifest_schema.specs.Prelude.{Global, Bor, Appends, Keeps, Text, Manifest, raw_metadata}
use Rattle.std.specs.Prelude.{◌≡◌, ◌≢◌, ℕ, ◌⊎◌, List, [], ◌∷◌, ◌++◌, map, Option, Some, None, String, string_bytes, codes}
use Rattle.manifest_fault.specs.declared.error.Error.{Error}
use Rattle.manifest_fault.specs.declared.error.Error.TheVariants.{Io}
use Rattle.cargo_manifest.specs.Answers.{Refuses, RefusesToPrint}
use Rattle.cargo_manifest.specs.Canonical.{rewritten, Means, IsTextOf}
use Rattle.cargo_manifest.specs.Completes.{ComesTo}
use Rattle.manifest_completion.specs.Listings.{AnyAscending}
use Rattle.manifest_completion.specs.Completed.{completed_to}
use Rattle.manifest_inherit.specs.Finished.{Inherits}

-- WORDS that ask to print the manifest of standard input: `canon -`, or none
abbrev pub IsCanonInput : List (String Global) → Type 0
IsCanonInput [] = Unit {0}
IsCanonInput (v ∷ w ∷ []) = (string_bytes v ≡ codes "canon") × (string_bytes w ≡ codes "-")
IsCanonInput _ = ⊥

-- words may also ask for a file's manifest: as it is, completed, or first resolved over another file's workspace
pub data Asked : Type 0 where
  canon_file complete_file complete_member : Asked

-- a word for a file is any but `-`
abbrev pub IsFile : Text → Type 0
IsFile w = w ≢ codes "-"

-- the words ask for it: `canon FILE`, `complete FILE`, `complete FILE --workspace ROOT`
abbrev pub Asks : Asked → List (String Global) → Type 0
Asks canon_file words =
    (file : Text) × (map string_bytes words ≡ codes "canon" ∷ file ∷ []) × IsFile file
Asks complete_file words =
    (file : Text) × (map string_bytes words ≡ codes "complete" ∷ file ∷ []) × IsFile file
Asks complete_member words =
    (file : Text) × (root : Text)
    × (map string_bytes words ≡ codes "complete" ∷ file ∷ codes "--workspace" ∷ root ∷ [])
    × IsFile file × IsFile root

-- the words ask for nothing that there is
abbrev pub AreWrong : List (String Global) → Type 0
AreWrong words = ¬ IsCanonInput words × ((a : Asked) → ¬ Asks a words)

-- some file's bytes mean the manifest
abbrev pub IsFileOf : Manifest → Type 0
IsFileOf m = (bytes : List ℕ) × Means bytes m

-- a manifest and what it becomes: resolved over the workspace of a root, if any, and completed by some map of listings
abbrev pub IsFinished : Option Manifest → Manifest → Manifest → Type 0
IsFinished root m n =
    (resolved : Manifest) × Inherits root m resolved
    × ComesTo AnyAscending resolved (completed_to n)

-- the same, where the root's file is named or not
abbrev pub IsFinishedBy : Option (Bor Text) → Manifest → Manifest → Type 0
IsFinishedBy None m n = IsFinished None m n
IsFinishedBy (Some root) m n = (r : Manifest) × IsFileOf r × IsFinished (Some r) m n

-- the manifests that may be printed where it is asked for
abbrev pub MayPrint : Asked → Manifest → Type 0
MayPrint canon_file m = IsFileOf m
MayPrint complete_file m = (read : Manifest) × IsFileOf read × IsFinished None read m
MayPrint complete_member m =
    (read : Manifest) × IsFileOf read × (root : Manifest) × IsFileOf root
    × IsFinished (Some root) read m

-- OUTPUT: known bytes grow by a beginning of the text
pub record Begins (old new : Option (List ℕ)) (text : List ℕ) : Type 0 where
  pub written : List ℕ
  pub rest : List ℕ
  pub whole : text ≡ written ++ rest
  pub out : Appends old new written

-- one text was written, which is the manifest's
abbrev pub Prints : Manifest → Option (List ℕ) → Option (List ℕ) → Type 0
Prints m old new = (text : List ℕ) × IsTextOf m text × Appends old new text

-- nothing was written, or a beginning of the manifest's text
abbrev pub BeginsToPrint : Manifest → Option (List ℕ) → Option (List ℕ) → Type 0
BeginsToPrint m old new =
    Keeps old new ⊎ ((text : List ℕ) × IsTextOf m text × Begins old new text)

-- why a manifest was not printed, and what was written: at a fault of the output at most a beginning, and else nothing
abbrev pub FailsToPrint : Manifest → Option (List ℕ) → Option (List ℕ) → Error → Type 0
FailsToPrint m old new (Io e) = BeginsToPrint m old new
FailsToPrint m old new e = RefusesToPrint (rewritten m) e × Keeps old new

-- one manifest of these was printed
abbrev pub PrintsOne : (Manifest → Type 0) → Option (List ℕ) → Option (List ℕ) → Type 0
PrintsOne P old new = (m : Manifest) × P m × Prints m old new

-- nothing was written, or a beginning of the text of one manifest of these
abbrev pub BeginsOne : (Manifest → Type 0) → Option (List ℕ) → Option (List ℕ) → Type 0
BeginsOne P old new = Keeps old new ⊎ ((m : Manifest) × P m × BeginsToPrint m old new)

-- STANDARD INPUT: one text was written, which is the canonical one of the bytes
abbrev pub IsPrinted : List ℕ → Option (List ℕ) → Option (List ℕ) → Type 0
IsPrinted bytes old new = PrintsOne (Means bytes) old new

-- nothing was written, or a beginning of the canonical text of the bytes
abbrev pub IsBegun : List ℕ → Option (List ℕ) → Option (List ℕ) → Type 0
IsBegun bytes old new = BeginsOne (Means bytes) old new

-- why bytes have no canonical text: reading refuses them, or printing refuses the rewritten table of what they mean
abbrev pub RefusesCanonical : List ℕ → Error → Type 0
RefusesCanonical bytes e =
    Refuses raw_metadata raw_metadata bytes e
    ⊎ ((m : Manifest) × Means bytes m × RefusesToPrint (rewritten m) e)

-- why the bytes were not printed, and what was written: at an I/O fault at most a beginning, and else nothing
abbrev pub IsRefused : List ℕ → Option (List ℕ) → Option (List ℕ) → Error → Type 0
IsRefused bytes old new (Io e) = IsBegun bytes old new
IsRefused bytes old new e = RefusesCanonical bytes e × Keeps old new
