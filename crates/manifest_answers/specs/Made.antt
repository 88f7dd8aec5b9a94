-- What a call makes of bytes, what it writes of that, and why it does not.
use Rattle.manifest_schema.specs.Prelude.{Bor, Global, view, Value, table, Text, Workspace, Manifest}
use Rattle.std.specs.Prelude.{◌≡◌, ◌⊎◌, ℕ, ◌<◌, ◌≤◌, true, false, IfSome, List, length, Option, Some, None, option_map, Box, Vec, Result, Ok, Err, IsUtf8}
use Rattle.manifest_completion.specs.Listings.{Answer}
use Rattle.manifest_completion.specs.Completed.{completed, completed_to}
use Rattle.manifest_completion.specs.Stored.{stored_map}
use Rattle.manifest_completion.specs.Outcome.{IsRefusalOf}
use Rattle.cargo_manifest.specs.Answers.{IsOver, RefusesToPrint}
use Rattle.cargo_manifest.specs.Canonical.{rewritten, IsTextOf}
use Rattle.cargo_manifest.specs.Whole.{manifest_content}
use Rattle.cargo_manifest.specs.declared.manifest.Manifest.{Manifest as ManifestOfCode}
use Rattle.manifest_inherit.specs.Sizes.{inherits_at_most}
use Rattle.manifest_inherit.specs.Finished.{Inherits, RefusesToInherit}
use Rattle.manifest_inherit.specs.declared.error.FinishError.{FinishError}
use Rattle.manifest_inherit.specs.declared.error.FinishError.TheVariants.{Manifest as Incomplete}
use Rattle.manifest_bytes.specs.Encoded.{encoded}
use Rattle.manifest_bytes.specs.Decoded.{decoded}
use Rattle.manifest_answers.specs.declared.folders.Folder.{Folder}
use Rattle.manifest_answers.specs.declared.folders.GivenFolders.{GivenFolders}
use Rattle.manifest_answers.specs.declared.reading.Input.{Input}
use Rattle.manifest_answers.specs.declared.making.Output.{Output}
use Rattle.manifest_answers.specs.declared.making.Output.TheVariants.{CanonicalText, TaggedTable}
use Rattle.manifest_answers.specs.declared.refusal.InputError.{InputError}
use Rattle.manifest_answers.specs.declared.refusal.Refusal.{Refusal}
use Rattle.manifest_answers.specs.declared.refusal.Refusal.TheVariants.{Bytes, Root, Listings, Finishing, Printing, TooLong, Memory}
use Rattle.manifest_answers.specs.Given.{given, given_by, AreListings}
use Rattle.manifest_answers.specs.Read.{Are, RefusesToRead}

-- REFUSALS are reported by this
abbrev pub Refusals : Type 1
Refusals = Refusal → Type 0

-- no memory was left
abbrev pub IsOutOfMemory : Refusals
IsOutOfMemory (Memory e) = Unit {0}
IsOutOfMemory _ = ⊥

-- the bytes are refused as they are read
abbrev pub OfBytes : (InputError → Type 0) → Refusals
OfBytes refuses (Bytes e) = refuses e
OfBytes refuses _ = ⊥

-- ONE STEP: completed over what is stored for the paths, where anything is
abbrev pub CompletesStored : Option (Text → Answer) → Manifest → Manifest → Type 0
CompletesStored None m n = n ≡ m
CompletesStored (Some stored) m n = completed m (stored_map stored) ≡ completed_to n

abbrev pub RefusesToCompleteStored : Option (Text → Answer) → Manifest → FinishError → Type 0
RefusesToCompleteStored (Some stored) m (Incomplete e) =
    IsRefusalOf (completed m (stored_map stored)) e
RefusesToCompleteStored _ m _ = ⊥

-- WITHIN A BOUND in bytes: what is inherited of the root's workspace, where there is one, takes no more
abbrev pub InheritsWithin : ℕ → Option Manifest → Manifest → Type 0
InheritsWithin most None m = Unit {0}
InheritsWithin most (Some root) m =
    IfSome root.workspace (λ w. inherits_at_most m w most ≡ true)

abbrev pub InheritsMore : ℕ → Option Manifest → Manifest → Type 0
InheritsMore most None m = ⊥
InheritsMore most (Some root) m =
    (w : Workspace) × (root.workspace ≡ Some w) × (inherits_at_most m w most ≡ false)

-- BOTH STEPS: with what is inherited from the root's workspace, where there is a root, and then completed
abbrev pub FinishesStored :
    ℕ → Option Manifest → Option (Text → Answer) → Manifest → Manifest → Type 0
FinishesStored most root stored m n =
    InheritsWithin most root m
    × ((o : Manifest) × Inherits root m o × CompletesStored stored o n)

abbrev pub RefusesToFinishStored :
    ℕ → Option Manifest → Option (Text → Answer) → Manifest → Refusals
RefusesToFinishStored most root stored m TooLong = InheritsMore most root m
RefusesToFinishStored most root stored m (Finishing e) =
    ((n : Manifest) × RefusesToInherit root m n e)
    ⊎ ((n : Manifest) × Inherits root m n × RefusesToCompleteStored stored n e)
RefusesToFinishStored most root stored m _ = ⊥

-- THE ROOT is what its bytes are, where there are any
abbrev pub IsRoot : Input → Option (List ℕ) → Option Manifest → Type 0
IsRoot input None None = Unit {0}
IsRoot input (Some bytes) (Some root) = Are input bytes root
IsRoot input _ _ = ⊥

abbrev pub RefusesRoot : Input → Option (List ℕ) → Refusals
RefusesRoot input (Some bytes) (Root e) = RefusesToRead input bytes e
RefusesRoot input _ _ = ⊥

abbrev pub FinishesByBytes :
    ℕ → Input → Option (List ℕ) → Option (Text → Answer) → Manifest → Manifest → Type 0
FinishesByBytes most input root stored m n =
    (r : Option Manifest) × IsRoot input root r × FinishesStored most r stored m n

abbrev pub RefusesByBytes :
    ℕ → Input → Option (List ℕ) → Option (Text → Answer) → Manifest → Refusals
RefusesByBytes most input root stored m e =
    RefusesRoot input root e
    ⊎ ((r : Option Manifest) × IsRoot input root r × RefusesToFinishStored most r stored m e)

-- THE MANIFESTS THAT ARE MADE of the bytes, over what is stored for the paths
abbrev pub MakesOver :
    ℕ → Input → List ℕ → Option (List ℕ) → Option (Text → Answer) → Manifest → Type 0
MakesOver most input bytes root stored n =
    (m : Manifest) × Are input bytes m × FinishesByBytes most input root stored m n

abbrev pub RefusesOver : ℕ → Input → List ℕ → Option (List ℕ) → Option (Text → Answer) → Refusals
RefusesOver most input bytes root stored e =
    OfBytes (RefusesToRead input bytes) e
    ⊎ ((m : Manifest) × Are input bytes m × RefusesByBytes most input root stored m e)

-- folders are listings, where there are any
abbrev pub AreAllListings : Option (List Folder) → Type 0
AreAllListings None = Unit {0}
AreAllListings (Some folders) = AreListings folders

-- folders are refused as listings only where this does not hold, and else where memory ran out
abbrev pub RefusesUnless : Type 0 → Refusals
RefusesUnless P Listings = ¬ P
RefusesUnless P e = IsOutOfMemory e

-- THE MANIFESTS THAT A CALL MAKES of its bytes, its root and its folders, within a bound in bytes
abbrev pub Makes : ℕ → Input → List ℕ → Option (List ℕ) → Option (List Folder) → Manifest → Type 0
Makes most input bytes root folders m =
    AreAllListings folders × MakesOver most input bytes root (option_map given folders) m

abbrev pub RefusesToMake : ℕ → Input → List ℕ → Option (List ℕ) → Option (List Folder) → Refusals
RefusesToMake most input bytes root folders e =
    RefusesUnless (AreAllListings folders) e
    ⊎ RefusesOver most input bytes root (option_map given folders) e

-- TAGGED BYTES, at most a given number; refused where they are more, and else only when out of memory
abbrev pub AreWithin : ℕ → List ℕ → Text → Type 0
AreWithin most tagged text = (text ≡ tagged) × (length text ≤ most)

abbrev pub RefusesTagged : ℕ → List ℕ → Refusals
RefusesTagged most tagged TooLong = most < length tagged
RefusesTagged most tagged e = IsOutOfMemory e

-- WHAT IS ASKED FOR, within a bound in bytes: the canonical text, which is UTF-8, or the table's tagged bytes
abbrev pub Writes : Output → ℕ → Manifest → Text → Type 0
Writes CanonicalText most m text = IsTextOf m text × IsUtf8 text × (length text ≤ most)
Writes TaggedTable most m text = AreWithin most (encoded (table (rewritten m))) text

-- such bytes hold the table
abbrev pub Holds : Output → Manifest → Text → Type 0
Holds CanonicalText m text = Unit {0}
Holds TaggedTable m text = decoded text ≡ Some (table (rewritten m))

-- it is refused: the table cannot be printed, or what is asked for could take more bytes; or out of memory
abbrev pub RefusesOutput : Output → ℕ → Manifest → Refusals
RefusesOutput CanonicalText most m (Printing e) = RefusesToPrint (rewritten m) e
RefusesOutput CanonicalText most m TooLong = IsOver most (rewritten m)
RefusesOutput CanonicalText most m _ = ⊥
RefusesOutput TaggedTable most m e = RefusesTagged most (encoded (table (rewritten m))) e

-- THE OUTCOME of the steps is one of these texts, or one of these refusals
abbrev pub IsMade : (Text → Type 0) → Refusals → Result (Vec ℕ Global) Refusal → Type 0
IsMade gives refuses (Ok v) = gives v.items
IsMade gives refuses (Err e) = refuses e

-- the text is what is asked for of one of these manifests
abbrev pub Gives : Output → ℕ → (Manifest → Type 0) → Text → Type 0
Gives output most makes text =
    (m : Manifest) × makes m × Writes output most m text × Holds output m text

-- a refusal of the steps that make the manifests, or of what is asked for of one of them
abbrev pub OrOutput : Output → ℕ → (Manifest → Type 0) → Refusals → Refusals
OrOutput output most makes refuses e =
    refuses e ⊎ ((m : Manifest) × makes m × RefusesOutput output most m e)

-- in the code: what is stored by the folders that are given
abbrev pub stored_by : Option (Bor GivenFolders) → Option (Text → Answer)
stored_by folders = option_map (λ f. given_by f.now) folders

-- and the content of a manifest on the heap
abbrev pub boxed_content : Box (ManifestOfCode Value Value) Global → Manifest
boxed_content m = manifest_content view view m.value
