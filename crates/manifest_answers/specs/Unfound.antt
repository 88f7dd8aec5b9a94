-- The declared targets of a manifest without a file, and where they stand in its text, as a value and as its tagged bytes.
use Rattle.manifest_schema.specs.Prelude.{Data, array, Text, Path, Manifest}
use Rattle.std.specs.Prelude.{◌≡◌, ◌⊎◌, ℕ, List, map, Ok, Err}
use Rattle.toml.specs.View.{items_of}
use Rattle.manifest_bytes.specs.Encoded.{encoded}
use Rattle.manifest_completion.specs.Listings.{Answer}
use Rattle.manifest_completion.specs.Stored.{stored_map}
use Rattle.manifest_completion.specs.Unfound.{manifest_unfound, IsOutcome}
use Rattle.manifest_inherit.specs.declared.error.FinishError.TheVariants.{Manifest as Incomplete}
use Rattle.manifest_places.specs.declared.located.Located.{Located}
use Rattle.manifest_answers.specs.declared.folders.Folder.{Folder}
use Rattle.manifest_answers.specs.declared.reading.Input.TheVariants.{Toml}
use Rattle.manifest_answers.specs.declared.refusal.Refusal.TheVariants.{Finishing}
use Rattle.manifest_answers.specs.Given.{given, AreListings}
use Rattle.manifest_answers.specs.Read.{Are, RefusesToRead}
use Rattle.manifest_answers.specs.Inspected.{pair_data, step_data}
use Rattle.manifest_answers.specs.Placed.{places_data, AreFoundIn}
use Rattle.manifest_answers.specs.Made.{Refusals, IsOutOfMemory, OfBytes, RefusesUnless, AreWithin, RefusesTagged}

-- A PATH: the array of its steps
abbrev pub path_data : Path → Data
path_data p = array (items_of (map step_data p))

-- and each of several
abbrev pub paths_data : List Path → Data
paths_data ps = array (items_of (map path_data ps))

-- PATHS, AND WHERE THEY LEAD in a text
abbrev pub placed_paths_data : List Path → List Located → Data
placed_paths_data ps ls = pair_data (paths_data ps) (places_data ls)

-- the text is the tagged bytes of these paths, and of where that stands in the bytes which belongs to them
abbrev pub GivesPaths : ℕ → Text → List Path → Text → Type 0
GivesPaths most bytes ps text =
    (ls : List Located) × AreFoundIn bytes ps ls
    × AreWithin most (encoded (placed_paths_data ps ls)) text

-- memory ran out, or the tagged bytes are refused as they are made
abbrev pub RefusesPaths : ℕ → Text → List Path → Refusals
RefusesPaths most bytes ps e =
    IsOutOfMemory e
    ⊎ ((ls : List Located) × AreFoundIn bytes ps ls
    × RefusesTagged most (encoded (placed_paths_data ps ls)) e)

-- these are the targets of a manifest without a file, over what is stored for the paths of folders
abbrev pub AreUnfoundOver : (Text → Answer) → Manifest → List Path → Type 0
AreUnfoundOver stored m ps = manifest_unfound m (stored_map stored) ≡ Ok ps

-- a folder has a fault that refuses to say them, or memory ran out
abbrev pub RefusesUnfoundOver : (Text → Answer) → Manifest → Refusals
RefusesUnfoundOver stored m (Finishing (Incomplete e)) =
    IsOutcome (manifest_unfound m (stored_map stored)) (Err e)
RefusesUnfoundOver stored m _ = ⊥

-- of one manifest, over what is stored
abbrev pub GivesUnfoundOf : ℕ → Text → (Text → Answer) → Manifest → Text → Type 0
GivesUnfoundOf most bytes stored m text =
    (ps : List Path) × AreUnfoundOver stored m ps × GivesPaths most bytes ps text

abbrev pub RefusesUnfoundOf : ℕ → Text → (Text → Answer) → Manifest → Refusals
RefusesUnfoundOf most bytes stored m e =
    RefusesUnfoundOver stored m e
    ⊎ ((ps : List Path) × AreUnfoundOver stored m ps × RefusesPaths most bytes ps e)

-- of the manifest that the bytes are
abbrev pub GivesUnfoundOver : ℕ → Text → (Text → Answer) → Text → Type 0
GivesUnfoundOver most bytes stored text =
    (m : Manifest) × Are Toml bytes m × GivesUnfoundOf most bytes stored m text

abbrev pub RefusesUnfoundTextOver : ℕ → Text → (Text → Answer) → Refusals
RefusesUnfoundTextOver most bytes stored e =
    OfBytes (RefusesToRead Toml bytes) e
    ⊎ ((m : Manifest) × Are Toml bytes m × RefusesUnfoundOf most bytes stored m e)

-- THE TEXT says which targets of the manifest that the bytes are have no file in the folders, and where they stand
abbrev pub GivesUnfound : ℕ → Text → List Folder → Text → Type 0
GivesUnfound most bytes folders text =
    AreListings folders × GivesUnfoundOver most bytes (given folders) text

-- the folders are no listings, the bytes are not read, a folder has a fault, or the tagged bytes are refused as they are made
abbrev pub RefusesUnfound : ℕ → Text → List Folder → Refusals
RefusesUnfound most bytes folders e =
    RefusesUnless (AreListings folders) e ⊎ RefusesUnfoundTextOver most bytes (given folders) e
