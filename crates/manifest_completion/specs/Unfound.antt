-- The declared targets for which completion finds no file, by where they stand in the manifest.
use Rattle.manifest_schema.specs.Prelude.{error_kind, ErrorKind, OutOfMemory, is_some, flat_map, AllByRecursion, Contains, Text, Path, key, index, Product, Package, Manifest}
use Rattle.std.specs.Prelude.{◌≡◌, ◌⊎◌, ◌↔◌, ℕ, suc, List, [], ◌∷◌, ◌++◌, map, length, drop, codes, if◌then◌else◌, Option, Some, None, true, Result, Ok, Err, Vec}
use Rattle.manifest_fault.specs.declared.error.Error.{Error}
use Rattle.manifest_fault.specs.declared.error.Error.TheVariants.{Io, Memory}
use Rattle.manifest_fault.specs.declared.fault.KeyPath.{KeyPath}
use Rattle.manifest_fault.specs.Faults.{path_of}
use Rattle.std.specs.declared.alloc.Global.{Global}
use Rattle.manifest_completion.specs.Listings.{Answer, TargetFolder, target_folders, by_folder, Place, source, ListingMap, at}
use Rattle.manifest_completion.specs.Finds.{Discovered, discovered, list_finds}
use Rattle.manifest_completion.specs.Targets.{pathed, Defaults, with_defaults}
use Rattle.manifest_completion.specs.Completed.{PackageTargets, Library, no_file, known, library, declared, defaults, completed_to, no_library, completed, target_places, has_memory_fault, source_fault, up_to_memory_fault, targets_in, targets_of, ByOneMap}
use Rattle.manifest_completion.specs.Stored.{AnswersAsStored, stored_map}
use Rattle.manifest_completion.specs.Laws.{AgreeAt}

-- the declared targets of a list as they stand in the completed list: filled in, and with their defaults
abbrev pub as_completed : Defaults → List Discovered → List Product → List Product
as_completed d fs ps = map (with_defaults d) (map (pathed fs) ps)

-- the key of the list of a folder's targets
abbrev pub list_key : TargetFolder → Text
list_key d = by_folder (codes "bin") (codes "example") (codes "test") (codes "bench") d

-- where a target of a list stands, as `bin[1]`
abbrev pub place_in : Text → ℕ → Path
place_in k i = key k ∷ index i ∷ []

-- where the targets without a path stand in the list under this key, of which the first has this index
abbrev pub without_path : Text → ℕ → List Product → List Path
without_path k i [] = []
without_path k i (p ∷ ps) =
    (if is_some p.path then [] else place_in k i ∷ []) ++ without_path k (suc i) ps

-- where the library stands
abbrev pub library_place : Path
library_place = key (codes "lib") ∷ []

abbrev pub unfound_library : Library → List Path
unfound_library no_file = library_place ∷ []
unfound_library (known lib) = []

-- where the declared targets of a list stand that are without a path, by what `src` lists and what is found
abbrev pub unfound_in :
    PackageTargets → Answer → (TargetFolder → List Discovered) → TargetFolder → List Path
unfound_in t src fs d =
    without_path (list_key d) 0
    (as_completed (defaults t src d) (list_finds t.name src fs d) (declared t d))

-- a library without a file, then of each list the targets without a path
unfoldable pub unfound_from :
    PackageTargets → Answer → (TargetFolder → List Discovered) → List Path
unfound_from t src fs =
    unfound_library (library t src) ++ flat_map (unfound_in t src fs) target_folders

-- THE DECLARED TARGETS WITHOUT A FILE
abbrev pub unfound : PackageTargets → ListingMap → List Path
unfound t l = unfound_from t l.source (discovered l)

-- THE OUTCOME: refused for a fault of `src`, or for memory that ran out for a folder of targets; else where they stand
abbrev pub unfound_after :
    PackageTargets → ListingMap → Option ErrorKind → Result (List Path) ErrorKind
unfound_after t l (Some k) = Err k
unfound_after t l None =
    if has_memory_fault (at l) (target_places l) then Err OutOfMemory else Ok (unfound t l)

abbrev pub unfound_targets : PackageTargets → ListingMap → Result (List Path) ErrorKind
unfound_targets t l = unfound_after t l (source_fault l.source)

-- the places that are asked for them, in their order: not the folder of the manifest
abbrev pub asked_unfound : PackageTargets → ListingMap → List Place
asked_unfound t l =
    source
    ∷ (if is_some (source_fault l.source) then []
    else up_to_memory_fault (at l) (target_places l))

-- THE MANIFEST: without a package nothing is asked, and nothing is unfound
abbrev pub unfound_by : Option Package → Manifest → ListingMap → Result (List Path) ErrorKind
unfound_by None m l = Ok []
unfound_by (Some p) m l = unfound_targets (targets_of p m) l

abbrev pub manifest_unfound : Manifest → ListingMap → Result (List Path) ErrorKind
manifest_unfound m l = unfound_by m.«package» m l

abbrev pub asked_unfound_by : Option Package → Manifest → ListingMap → List Place
asked_unfound_by None m l = []
asked_unfound_by (Some p) m l = asked_unfound (targets_of p m) l

abbrev pub manifest_asked_unfound : Manifest → ListingMap → List Place
manifest_asked_unfound m l = asked_unfound_by m.«package» m l

-- WHAT IS ANSWERED is an outcome of which this holds; or memory ran out
abbrev pub IsAnswer :
    (Result (List Path) ErrorKind → Type 0) → Result (Vec KeyPath Global) Error → Type 0
IsAnswer holds (Ok v) = holds (Ok (map path_of v.items))
IsAnswer holds (Err (Io e)) = holds (Err (error_kind e))
IsAnswer holds (Err (Memory e)) = Unit {0}
IsAnswer holds (Err _) = ⊥

-- it is the outcome by one map of answers that the filesystem allows
abbrev pub AreUnfound :
    (Text → Answer → Type 0) → PackageTargets → Result (Vec KeyPath Global) Error → Type 0
AreUnfound allows t = IsAnswer (ByOneMap allows (asked_unfound t) (unfound_targets t))

-- LAWS
-- where the targets of a manifest without a path stand
abbrev pub all_without_path : Manifest → List Path
all_without_path m = flat_map (λ d. without_path (list_key d) 0 (targets_in m d)) target_folders

-- each of these targets has a path
abbrev pub HavePaths : List Product → Type 0
HavePaths ps = AllByRecursion (λ p. is_some p.path ≡ true) ps

-- the unfound targets of the manifest m are those that the completed manifest n has without a path, all of them
-- declared
pub record AreLeftWithoutPath (m n : Manifest) (l : ListingMap) : Type 0 where
  pub unfound : manifest_unfound m l ≡ Ok (all_without_path n)
  pub added : (d : TargetFolder) → HavePaths (drop (length (targets_in m d)) (targets_in n d))

-- where a manifest with a package is completed, its unfound targets are those that completion leaves without a path
abbrev pub UnfoundAreLeft : Type 0
UnfoundAreLeft =
    (p : Package) (m n : Manifest) (l : ListingMap) → m.«package» ≡ Some p →
    completed m l ≡ completed_to n → AreLeftWithoutPath m n l

-- completion is refused for a library without a file exactly where the library is among the unfound targets
abbrev pub RefusedIfUnfound : Type 0
RefusedIfUnfound =
    (p : Package) (m : Manifest) (l : ListingMap) → m.«package» ≡ Some p →
    source_fault l.source ≡ None →
    (completed m l ≡ no_library) ↔ Contains (unfound (targets_of p m) l) library_place

-- what is asked for them and the outcome depend on the answers at the places that are asked alone
abbrev pub AskedDecidesUnfound : Type 0
AskedDecidesUnfound =
    (m : Manifest) (l k : ListingMap) → AgreeAt l k (manifest_asked_unfound m l) →
    (manifest_asked_unfound m l ≡ manifest_asked_unfound m k)
    × (manifest_unfound m l ≡ manifest_unfound m k)

-- the answer is this outcome; or memory ran out, for a listing or for what is made
abbrev pub IsOutcome :
    Result (List Path) ErrorKind → Result (Vec KeyPath Global) Error → Type 0
IsOutcome o (Ok v) = o ≡ Ok (map path_of v.items)
IsOutcome o (Err (Io e)) = (o ≡ Err (error_kind e)) ⊎ (error_kind e ≡ OutOfMemory)
IsOutcome o (Err (Memory e)) = Unit {0}
IsOutcome o (Err _) = ⊥

-- where one answer is stored for each path text, what is stored decides the answer
abbrev pub StoredDecidesUnfound : Type 0
StoredDecidesUnfound =
    (stored : Text → Answer) (t : PackageTargets) (r : Result (Vec KeyPath Global) Error) →
    AreUnfound (AnswersAsStored stored) t r → IsOutcome (unfound_targets t (stored_map stored)) r
