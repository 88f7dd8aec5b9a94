-- What is answered where a manifest is completed by the folder of a path, and where it is read from the file of one.
use Rattle.manifest_schema.specs.Prelude.{error_kind, ErrorKind, path_bytes, Data, Text, Kind, Manifest}
use Rattle.std.specs.Prelude.{◌≡◌, ◌⊎◌, ℕ, List, Option, Some, None, Result, Ok, Err, IsUtf8}
use Rattle.std.specs.declared.path.Path.{Path}
use Rattle.std.specs.Path.{path_parent}
use Rattle.manifest_fault.specs.declared.error.Error.{Error}
use Rattle.manifest_fault.specs.declared.error.Error.TheVariants.{Io}
use Rattle.manifest_completion.specs.Listings.{AnyAscending}
use Rattle.manifest_completion.specs.Completed.{completed_to}
use Rattle.cargo_manifest.specs.Answers.{IsDocumentOf, Refuses}
use Rattle.cargo_manifest.specs.Completes.{ComesTo, RefusesToComplete}

-- the error is Io
abbrev pub IsIo : Error → Type 0
IsIo (Io e) = Unit {0}
IsIo _ = ⊥

-- the error is Io of the kind Other
abbrev pub IsOtherIo : Error → Type 0
IsOtherIo (Io e) = error_kind e ≡ ErrorKind.Other
IsOtherIo _ = ⊥

-- THE FOLDER of a path: its parent, which `/` and the empty path do not have; that of a bare name is the empty path
abbrev pub folder_of : Path → Option Text
folder_of p = path_parent (path_bytes p)

-- the first manifest becomes the second by some map of listings whose names ascend
abbrev pub CompletedIn : Option Text → Manifest → Manifest → Type 0
CompletedIn (Some folder) old new = ComesTo AnyAscending old (completed_to new)
CompletedIn None old new = ⊥

-- the refusal to complete: that of such a map, or out of memory; without a folder, Io of the kind Other
abbrev pub RefusesIn : Option Text → Manifest → Error → Type 0
RefusesIn (Some folder) m e = RefusesToComplete AnyAscending m e
RefusesIn None m e = IsOtherIo e

-- what completing a manifest answers, which it leaves as the second one
abbrev pub CompletesIn : Option Text → Manifest → Manifest → Result (Unit {0}) Error → Type 0
CompletesIn folder old new (Ok u) = CompletedIn folder old new
CompletesIn folder old new (Err e) = RefusesIn folder old e

-- THE FILE of a path: some bytes, of which no more is known than what is answered
-- the bytes are a document of a table that means the manifest
abbrev pub IsRead : Kind Data → Kind Data → List ℕ → Manifest → Type 0
IsRead K W bytes m = IsUtf8 bytes × IsDocumentOf K W bytes m

-- the manifest is what these bytes mean, completed
abbrev pub IsCompletedOf : Kind Data → Kind Data → Option Text → List ℕ → Manifest → Type 0
IsCompletedOf K W folder bytes m =
    (read : Manifest) × IsRead K W bytes read × CompletedIn folder read m

-- the refusal to complete what these bytes mean
abbrev pub RefusesCompleted : Kind Data → Kind Data → Option Text → List ℕ → Error → Type 0
RefusesCompleted K W folder bytes e =
    (read : Manifest) × IsRead K W bytes read × RefusesIn folder read e

-- THE MANIFEST OF A PATH is what some bytes mean, completed
abbrev pub IsOfPath : Kind Data → Kind Data → Option Text → Manifest → Type 0
IsOfPath K W folder m = (bytes : List ℕ) × IsCompletedOf K W folder bytes m

-- THE REFUSAL OF A PATH, by its layers: of the file, of some bytes, or of the completion of what some bytes mean
abbrev pub RefusesPath : Kind Data → Kind Data → Option Text → Error → Type 0
RefusesPath K W folder e =
    IsIo e
    ⊎ ((bytes : List ℕ) × Refuses K W bytes e)
    ⊎ ((bytes : List ℕ) × RefusesCompleted K W folder bytes e)
