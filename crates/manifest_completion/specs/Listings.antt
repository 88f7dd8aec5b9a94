-- What a filesystem answers for a folder, the places that completion asks for, and a map of listings.
use Rattle.manifest_schema.specs.Prelude.{list_any, nat_cmp, slice_cmp, bytes_eq, ErrorKind, NotFound, OutOfMemory, Text}
use Rattle.std.specs.Prelude.{Bool, true, false, if◌then◌else◌, List, [], ◌∷◌, ◌++◌, codes}
use Rattle.std.specs.List.{IsDistinct}
use Rattle.std.specs.List.Sorted.{IsStrictlySortedBy}
pub use Rattle.manifest_completion.specs.declared.target_folder.TargetFolder.{TargetFolder}
pub use Rattle.manifest_completion.specs.declared.target_folder.TargetFolder.TheVariants.{Bins, Examples, Tests, Benches}

-- AN ANSWER for a folder: the names in it, in the order of bytes, or the kind of a fault
pub data Answer : Type 0 where
  names : List Text → Answer
  fault : ErrorKind → Answer

-- the names, none of a fault
abbrev pub names_of : Answer → List Text
names_of (names ns) = ns
names_of (fault k) = []

-- the answer has this name
abbrev pub lists : Answer → Text → Bool
lists a n = list_any (bytes_eq n) (names_of a)

-- the filesystem ran out of memory for the answer
abbrev pub is_memory_kind : ErrorKind → Bool
is_memory_kind OutOfMemory = true
is_memory_kind _ = false

abbrev pub is_memory_fault : Answer → Bool
is_memory_fault (names ns) = false
is_memory_fault (fault k) = is_memory_kind k

-- PLACES: the source folder, a folder of targets, an entry of one by its name, and the folder of the manifest
pub data Place : Type 0 where
  source : Place
  folder : TargetFolder → Place
  entry : TargetFolder → Text → Place
  root : Place

-- THE FOLDERS OF TARGETS, in the order in which they are asked; each is that of a list of the manifest
abbrev pub target_folders : List TargetFolder
target_folders = Bins ∷ Examples ∷ Tests ∷ Benches ∷ []

-- of four things, the one that a folder has
abbrev pub by_folder : {A : Type 0} → A → A → A → A → TargetFolder → A
by_folder b e t n Bins = b
by_folder b e t n Examples = e
by_folder b e t n Tests = t
by_folder b e t n Benches = n

-- it is the folder of the binaries
abbrev pub is_bins : TargetFolder → Bool
is_bins d = by_folder true false false false d

-- it is the folder of the examples
abbrev pub is_examples : TargetFolder → Bool
is_examples d = by_folder false true false false d

-- the text that the filesystem is asked with
abbrev pub folder_text : TargetFolder → Text
folder_text d = by_folder (codes "src/bin") (codes "examples") (codes "tests") (codes "benches") d

-- a folder and a name in it, with `/` between them
abbrev pub joined : Text → Text → Text
joined d n = d ++ 47 ∷ n

abbrev pub path_text : Place → Text
path_text source = codes "src"
path_text (folder d) = folder_text d
path_text (entry d n) = joined (folder_text d) n
path_text root = codes "."

-- A MAP OF LISTINGS: one answer for each place; a folder of targets has its own answer and that of each entry
pub record FolderListing : Type 0 where
  pub own : Answer
  pub entries : List (Text × Answer)

pub record ListingMap : Type 0 where
  pub source : Answer
  pub folders : TargetFolder → FolderListing
  pub root : Answer

-- the answer for an entry; what is not in the map is not found
abbrev pub entry_answer : List (Text × Answer) → Text → Answer
entry_answer [] n = fault NotFound
entry_answer (e ∷ es) n = if bytes_eq e.0 n then e.1 else entry_answer es n

-- the answer that the map has for a place
abbrev pub at : ListingMap → Place → Answer
at l source = l.source
at l (folder d) = (l.folders d).own
at l (entry d n) = entry_answer (l.folders d).entries n
at l root = l.root

-- these names ascend in the order of bytes, strictly
abbrev pub IsAscending : List Text → Type 0
IsAscending ns = IsStrictlySortedBy (slice_cmp nat_cmp) ns

-- THE FOLDERS OF A REAL FILESYSTEM may be answered anything, at each path: names that ascend, or a fault
abbrev pub AnyAscending : Text → Answer → Type 0
AnyAscending path a = IsAscending (names_of a)

-- the names of each folder ascend
abbrev pub NamesAscend : ListingMap → Type 0
NamesAscend l = (p : Place) → IsAscending (names_of (at l p))

-- no folder has a name twice
abbrev pub HasNoNameTwice : ListingMap → Type 0
HasNoNameTwice l = (p : Place) → IsDistinct bytes_eq (names_of (at l p))
