-- What completion makes of a manifest, as a function of the listings; and which places are asked for it.
use Rattle.manifest_schema.specs.Prelude.{option_or, list_any, flat_map, AllByRecursion, ErrorKind, NotFound, OutOfMemory, Text, underscored, Inheritable, inherited, local, Edition, e2015, StringOrBool, a_text, a_flag, Product, Package, Manifest, is_empty}
use Rattle.std.specs.Prelude.{◌≡◌, List, [], ◌∷◌, ◌++◌, map, codes, if◌then◌else◌, Option, Some, None, Bool, true, false, is_some, unwrap_or, ◌&&◌, ◌||◌, not}
use Rattle.manifest_completion.specs.Listings.{Answer, names, fault, lists, is_memory_fault, TargetFolder, Bins, Examples, Tests, Benches, target_folders, by_folder, is_bins, is_examples, Place, source, folder, entry, root, names_of, path_text, ListingMap, at, NamesAscend}
use Rattle.manifest_completion.specs.Finds.{Discovered, discovered, list_finds}
use Rattle.manifest_completion.specs.Targets.{found, targets, Defaults}

-- THE TARGETS OF A PACKAGE: what completion reads of a manifest. It fills in `build`, the library and the four lists.
pub record PackageTargets : Type 0 where
  pub name : Text
  pub edition : Option (Inheritable Edition)
  pub autolib : Option Bool
  pub autobins : Option Bool
  pub autoexamples : Option Bool
  pub autotests : Option Bool
  pub autobenches : Option Bool
  pub build : Option StringOrBool
  pub lib : Option Product
  pub bin : List Product
  pub example : List Product
  pub test : List Product
  pub bench : List Product

-- EDITION
abbrev pub is_2015 : Edition → Bool
is_2015 e2015 = true
is_2015 _ = false

-- LEGACY MODE of discovering targets: the edition is absent, or 2015 and the package's own
abbrev pub is_legacy : Option (Inheritable Edition) → Bool
is_legacy None = true
is_legacy (Some inherited) = false
is_legacy (Some (local e)) = is_2015 e

-- the edition of the package's own
abbrev pub own_edition : Option (Inheritable Edition) → Option Edition
own_edition (Some (local e)) = Some e
own_edition _ = None

-- FLAGS: whether finds are added to a list: as the package says; else always, but in legacy mode only to an empty list
abbrev pub discovers : {A : Type 0} → Option Bool → Bool → List A → Bool
discovers own legacy ps = unwrap_or own (not (legacy && not (is_empty ps)))

-- LIBRARY
abbrev pub library_type : List Text
library_type = codes "lib" ∷ []

-- the file of a library without a path: `src/lib.rs`, or in legacy mode the file of its name
abbrev pub library_file : Bool → Answer → Text → Option Text
library_file legacy src file =
    if lists src (codes "lib.rs") then Some (codes "src/lib.rs")
    else if legacy && lists src file then Some (codes "src/" ++ file) else None

-- the path of a declared library; its file has its own name, or else that of the package
abbrev pub library_path : PackageTargets → Answer → Product → Option Text
library_path t src lib =
    option_or lib.path
    (library_file (is_legacy t.edition) src (unwrap_or lib.name t.name ++ codes ".rs"))

-- a library, none, or one that is declared and has no file
pub data Library : Type 0 where
  no_file : Library
  known : Option Product → Library

-- a declared library, by its path
abbrev pub declared_library : PackageTargets → Product → Option Text → Library
declared_library t lib None = no_file
declared_library t lib (Some q) = known (Some (record lib {
  path = Some q;
  name = option_or lib.name (Some (underscored t.name));
  edition = option_or lib.edition (own_edition t.edition);
  required_features = [];
  crate_type = option_or lib.crate_type (Some library_type);
}))

-- a library that is not declared: it is there where `src` lists `lib.rs`, unless the package says otherwise
abbrev pub inferred_library : PackageTargets → Answer → Option Product
inferred_library t src =
    if unwrap_or t.autolib true && lists src (codes "lib.rs")
    then Some (record (found (record { path = codes "src/lib.rs"; name = underscored t.name })) {
      edition = own_edition t.edition;
      crate_type = Some library_type;
    })
    else None

abbrev pub library_of : PackageTargets → Option Product → Answer → Library
library_of t None src = known (inferred_library t src)
library_of t (Some lib) src = declared_library t lib (library_path t src lib)

-- THE LIBRARY of a completed package
abbrev pub library : PackageTargets → Answer → Library
library t src = library_of t t.lib src

-- BUILD SCRIPT: the folder of the manifest is asked where `build` is absent or true
abbrev pub asks_root : Option StringOrBool → Bool
asks_root None = true
asks_root (Some (a_text t)) = false
asks_root (Some (a_flag b)) = b

-- `build.rs`, where it is asked for and listed
abbrev pub found_build : Bool → Answer → Option StringOrBool
found_build asks a =
    if asks && lists a (codes "build.rs") then Some (a_text (codes "build.rs")) else None

abbrev pub build_of : Option StringOrBool → Answer → Option StringOrBool
build_of b a = option_or (found_build (asks_root b) a) b

-- THE LISTS, each by the folder of its targets: the declared targets
abbrev pub declared : PackageTargets → TargetFolder → List Product
declared t d = by_folder t.bin t.example t.test t.bench d

-- what the package says of adding finds to the list
abbrev pub own_flag : PackageTargets → TargetFolder → Option Bool
own_flag t d = by_folder t.autobins t.autoexamples t.autotests t.autobenches d

-- whether they are added to it
abbrev pub adds : PackageTargets → TargetFolder → Bool
adds t d = discovers (own_flag t d) (is_legacy t.edition) (declared t d)

-- DEFAULTS: an example has the crate type `bin`, and in legacy mode a binary the path `src/main.rs`, where `src` lists it
abbrev pub defaults : PackageTargets → Answer → TargetFolder → Defaults
defaults t src d = record {
  edition = own_edition t.edition;
  crate_type = if is_examples d then Some (codes "bin" ∷ []) else None;
  path = if is_bins d && (is_legacy t.edition && lists src (codes "main.rs"))
      then Some (codes "src/main.rs")
      else None;
}

-- A COMPLETED LIST, by what `src` lists and what is found in the folders
abbrev pub completed_list :
    PackageTargets → Answer → (TargetFolder → List Discovered) → TargetFolder → List Product
completed_list t src fs d =
    targets (defaults t src d) (adds t d) (list_finds t.name src fs d) (declared t d)

-- the targets with this library, filled in by the answers at `src` and for the folder of the manifest, and by the finds
unfoldable pub filled_by :
    PackageTargets → Option Product → Answer → Answer → (TargetFolder → List Discovered) →
    PackageTargets
filled_by t lib src here fs = record t {
  build = build_of t.build here;
  lib = lib;
  bin = completed_list t src fs Bins;
  example = completed_list t src fs Examples;
  test = completed_list t src fs Tests;
  bench = completed_list t src fs Benches;
}

-- THE TARGETS FILLED IN, with this library
abbrev pub filled : PackageTargets → Option Product → ListingMap → PackageTargets
filled t lib l = filled_by t lib l.source l.root (discovered l)

-- THE OUTCOME OF COMPLETION: what it makes, a refusal for a listing's fault of this kind, or for a missing library file
pub data Completion (A : Type 0) : Type 0 where
  completed_to : A → Completion A
  refused : ErrorKind → Completion A
  no_library : Completion A

-- a folder of targets, then its entries
abbrev pub folder_places : ListingMap → TargetFolder → List Place
folder_places l d = folder d ∷ map (entry d) (names_of (at l (folder d)))

abbrev pub target_places : ListingMap → List Place
target_places l = flat_map (folder_places l) target_folders

-- the filesystem ran out of memory at one of these places
abbrev pub has_memory_fault : (Place → Answer) → List Place → Bool
has_memory_fault f ps = list_any (λ p. is_memory_fault (f p)) ps

-- the fault of `src` that refuses: any but that it is not there
abbrev pub source_fault : Answer → Option ErrorKind
source_fault (names ns) = None
source_fault (fault NotFound) = None
source_fault (fault k) = Some k

-- the fault of the manifest's folder that refuses: any, where the folder is asked
abbrev pub root_fault_if : Bool → Answer → Option ErrorKind
root_fault_if asks (names ns) = None
root_fault_if asks (fault k) = if asks then Some k else None

abbrev pub root_fault : Option StringOrBool → Answer → Option ErrorKind
root_fault b a = root_fault_if (asks_root b) a

-- refused for the first of these: a fault of `src`, a library without a file, memory that ran out for a folder of
-- targets, a fault of the manifest's folder; else the targets, filled in
abbrev pub after_root :
    PackageTargets → Option Product → ListingMap → Option ErrorKind → Completion PackageTargets
after_root t lib l (Some k) = refused k
after_root t lib l None = completed_to (filled t lib l)

abbrev pub after_library : PackageTargets → ListingMap → Library → Completion PackageTargets
after_library t l no_file = no_library
after_library t l (known lib) =
    if has_memory_fault (at l) (target_places l)
    then refused OutOfMemory
    else after_root t lib l (root_fault t.build l.root)

abbrev pub after_source : PackageTargets → ListingMap → Option ErrorKind → Completion PackageTargets
after_source t l (Some k) = refused k
after_source t l None = after_library t l (library t l.source)

-- THE COMPLETED TARGETS of a package
abbrev pub completed_targets : PackageTargets → ListingMap → Completion PackageTargets
completed_targets t l = after_source t l (source_fault l.source)

-- THE MANIFEST
-- its targets of the list of a folder
abbrev pub targets_in : Manifest → TargetFolder → List Product
targets_in m d = by_folder m.bin m.example m.test m.bench d

-- the targets of a manifest with this package
abbrev pub targets_of : Package → Manifest → PackageTargets
targets_of p m = record {
  name = p.name;
  edition = p.edition;
  autolib = p.autolib;
  autobins = p.autobins;
  autoexamples = p.autoexamples;
  autotests = p.autotests;
  autobenches = p.autobenches;
  build = p.build;
  lib = m.lib;
  bin = m.bin;
  example = m.example;
  test = m.test;
  bench = m.bench;
}

-- the manifest with this package, and with these targets in place of its own
abbrev pub with_targets : Package → Manifest → PackageTargets → Manifest
with_targets p m t = record m {
  «package» = Some (record p { build = t.build });
  lib = t.lib;
  bin = t.bin;
  example = t.example;
  test = t.test;
  bench = t.bench;
}

abbrev pub completion_with : Package → Manifest → Completion PackageTargets → Completion Manifest
completion_with p m (completed_to t) = completed_to (with_targets p m t)
completion_with p m (refused k) = refused k
completion_with p m no_library = no_library

abbrev pub completed_by : Option Package → Manifest → ListingMap → Completion Manifest
completed_by None m l = completed_to m
completed_by (Some p) m l = completion_with p m (completed_targets (targets_of p m) l)

-- THE COMPLETED MANIFEST: without a package it is the manifest itself
abbrev pub completed : Manifest → ListingMap → Completion Manifest
completed m l = completed_by m.«package» m l

-- THE FLAGS of a manifest, each that of a list: false without a package
abbrev pub flag_by : Option Package → Manifest → TargetFolder → Bool
flag_by None m d = false
flag_by (Some p) m d = adds (targets_of p m) d

abbrev pub autobins : Manifest → Bool
autobins m = flag_by m.«package» m Bins

abbrev pub autoexamples : Manifest → Bool
autoexamples m = flag_by m.«package» m Examples

abbrev pub autotests : Manifest → Bool
autotests m = flag_by m.«package» m Tests

abbrev pub autobenches : Manifest → Bool
autobenches m = flag_by m.«package» m Benches

-- WHAT IS ASKED
-- the places up to the first for which memory ran out
abbrev pub up_to_memory_fault : (Place → Answer) → List Place → List Place
up_to_memory_fault f [] = []
up_to_memory_fault f (p ∷ ps) = p ∷ (if is_memory_fault (f p) then [] else up_to_memory_fault f ps)

abbrev pub has_no_file : Library → Bool
has_no_file no_file = true
has_no_file (known lib) = false

-- completion refuses before a target folder is asked
abbrev pub stops_at_source : PackageTargets → Answer → Bool
stops_at_source t src = is_some (source_fault src) || has_no_file (library t src)

abbrev pub root_places : Bool → List Place
root_places asks = if asks then root ∷ [] else []

-- the places that are asked for the targets of a package, in their order: nothing is asked after a refusal
abbrev pub asked_targets : PackageTargets → ListingMap → List Place
asked_targets t l =
    source
    ∷ (if stops_at_source t l.source then []
    else up_to_memory_fault (at l) (target_places l ++ root_places (asks_root t.build)))

abbrev pub asked_by : Option Package → Manifest → ListingMap → List Place
asked_by None m l = []
asked_by (Some p) m l = asked_targets (targets_of p m) l

-- THE PLACES THAT ARE ASKED for a manifest, in their order: none without a package
abbrev pub asked : Manifest → ListingMap → List Place
asked m l = asked_by m.«package» m l

-- what a filesystem allows, a relation between path texts and answers, allows the map's answers at these places
abbrev pub AllAllowed : (Text → Answer → Type 0) → ListingMap → List Place → Type 0
AllAllowed allows l ps = AllByRecursion (λ p. allows (path_text p) (at l p)) ps

-- THE MAP EXPLAINS the answers: each folder's names ascend, and at each place that is asked the map's answer is allowed
pub record Explains (allows : Text → Answer → Type 0) (l : ListingMap) (places : List Place)
    : Type 0 where
  pub ascending : NamesAscend l
  pub allowed : AllAllowed allows l places

-- BY ONE MAP of listings, which explains what the filesystem answered at the places that it asks, this is the outcome
abbrev pub ByOneMap :
    {C : Type 0} → (Text → Answer → Type 0) → (ListingMap → List Place) → (ListingMap → C) → C →
    Type 0
ByOneMap allows asked outcome c = (l : ListingMap) × Explains allows l (asked l) × (outcome l ≡ c)
