-- The listings that a caller passes in.
use Rattle.manifest_schema.specs.Prelude.{Bor, nat_cmp, is_lt, Less, slice_cmp, bytes_eq, AllByRecursion, BTreeMap, get_by, ErrorKind, NotFound, OutOfMemory, Other, Text}
use Rattle.std.specs.Prelude.{◌≡◌, ℕ, ◌==◌, Bool, true, List, [], ◌∷◌, map, if◌then◌else◌, Option, Some, None, option_map, unwrap_or, IsUtf8}
use Rattle.manifest_completion.specs.Listings.{Answer, names, fault}
use Rattle.manifest_completion.specs.Answered.{set_names}
use Rattle.manifest_answers.specs.declared.folders.Folder.{Folder}
use Rattle.manifest_answers.specs.declared.folders.GivenFolders.{GivenFolders}
use Rattle.manifest_answers.specs.declared.folders.Listed.{Listed}
use Rattle.manifest_answers.specs.declared.folders.Listed.TheVariants as listed

-- THE FAULT of a number: 1 is not found, 2 is out of memory, and each other is any other
abbrev pub fault_kind : ℕ → ErrorKind
fault_kind n = if n == 1 then NotFound else if n == 2 then OutOfMemory else Other

-- texts as references
abbrev pub texts : List (Bor Text) → List Text
texts ts = map (λ (t : Bor Text). t.now) ts

-- A FOLDER answers its names where its fault is 0, and else the fault
abbrev pub folder_answer : Folder → Answer
folder_answer f = if f.fault == 0 then names (texts f.names.now) else fault (fault_kind f.fault)

-- the answer of the folder that has the path
abbrev pub folder_at : List Folder → Text → Option Answer
folder_at [] path = None
folder_at (f ∷ fs) path =
    if bytes_eq path f.path.now then Some (folder_answer f) else folder_at fs path

-- what has no folder is not there
abbrev pub or_not_found : Option Answer → Answer
or_not_found a = unwrap_or a (fault NotFound)

-- THE ANSWER for each path
abbrev pub given : List Folder → Text → Answer
given fs path = or_not_found (folder_at fs path)

-- each name is before the next one, by their bytes
abbrev pub AreInOrder : List Text → Type 0
AreInOrder (a ∷ b ∷ cs) = (slice_cmp nat_cmp a b ≡ Less) × AreInOrder (b ∷ cs)
AreInOrder _ = Unit {0}

-- names are UTF-8 and ascend
abbrev pub AreNames : List Text → Type 0
AreNames ns = AllByRecursion IsUtf8 ns × AreInOrder ns

-- a folder is one whose path is UTF-8 and whose names are names
abbrev pub IsFolder : Folder → Type 0
IsFolder f = IsUtf8 f.path.now × AreNames (texts f.names.now)

-- FOLDERS ARE LISTINGS where each is one, and none has the path of another
abbrev pub AreListings : List Folder → Type 0
AreListings [] = Unit {0}
AreListings (f ∷ fs) = IsFolder f × (folder_at fs f.path.now ≡ None) × AreListings fs

-- IN THE CODE
abbrev pub listed_answer : Listed → Answer
listed_answer (listed.Names s) = names (set_names s)
listed_answer (listed.Fault k) = fault k

-- the answer that a map has for a path
abbrev pub listed_at : BTreeMap (Bor Text) Listed → Text → Option Answer
listed_at m path =
    option_map listed_answer (get_by (λ (k : Bor Text). slice_cmp nat_cmp path k.now) m)

-- a name is before another one, where there is one
abbrev pub goes_before : Text → Option (Bor Text) → Bool
goes_before n None = true
goes_before n (Some t) = is_lt (slice_cmp nat_cmp n t.now)

-- the answers of the filesystem of some folders
abbrev pub given_by : GivenFolders → Text → Answer
given_by it path = or_not_found (listed_at it.by_path path)
