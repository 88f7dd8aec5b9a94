-- What completion leaves as it is: the targets that are declared; and what makes no difference to it.
use Rattle.manifest_schema.specs.Prelude.{filter, Text, Product, Manifest}
use Rattle.std.specs.Prelude.{◌≡◌, List, [], ◌∷◌, map, Option, Some, None, Bool, ◌||◌, is_some, codes}
use Rattle.manifest_completion.specs.Listings.{Answer, lists, names_of, TargetFolder, folder, entry, ListingMap, at}
use Rattle.manifest_completion.specs.Finds.{stem}
use Rattle.manifest_completion.specs.Completed.{targets_in, completed_to, completed, target_places, has_memory_fault}

-- what is there stays
abbrev pub Stays : {A : Type 0} → Option A → Option A → Type 0
Stays None b = Unit {0}
Stays (Some x) b = b ≡ Some x

-- A DECLARED TARGET is kept: it may take a path, an edition and a crate type where it has none
pub record IsKept (old new : Product) : Type 0 where
  pub path : Stays old.path new.path
  pub edition : Stays old.edition new.edition
  pub crate_type : Stays old.crate_type new.crate_type
  pub all_else : new ≡ record old {
    path = new.path;
    edition = new.edition;
    crate_type = new.crate_type;
  }

-- each of the first targets is kept, in its place
abbrev pub AreKept : List Product → List Product → Type 0
AreKept [] qs = Unit {0}
AreKept (p ∷ ps) [] = ⊥
AreKept (p ∷ ps) (q ∷ qs) = IsKept p q × AreKept ps qs

-- A DECLARED LIBRARY keeps its path, name, edition and crate type
pub record LibraryIsKept (old new : Product) : Type 0 where
  pub path : Stays old.path new.path
  pub name : Stays old.name new.name
  pub edition : Stays old.edition new.edition
  pub crate_type : Stays old.crate_type new.crate_type

abbrev pub DeclaredLibraryIsKept : Option Product → Option Product → Type 0
DeclaredLibraryIsKept None b = Unit {0}
DeclaredLibraryIsKept (Some old) None = ⊥
DeclaredLibraryIsKept (Some old) (Some new) = LibraryIsKept old new

pub record DeclaredAreKept (old new : Manifest) : Type 0 where
  pub lib : DeclaredLibraryIsKept old.lib new.lib
  pub lists : (d : TargetFolder) → AreKept (targets_in old d) (targets_in new d)

-- what is declared stays in every completion
abbrev pub DeclaredStays : Type 0
DeclaredStays =
    (m n : Manifest) (l : ListingMap) → completed m l ≡ completed_to n → DeclaredAreKept m n

-- AN ENTRY of a folder of targets is one where it is a file of Rust, or a folder with `main.rs`
abbrev pub is_target : Text → Answer → Bool
is_target n a = is_some (stem n) || lists a (codes "main.rs")

abbrev pub target_names : ListingMap → TargetFolder → List Text
target_names l d = filter (λ n. is_target n (at l (entry d n))) (names_of (at l (folder d)))

-- the entries that are: the name of each, and whether it is a folder with `main.rs`
abbrev pub target_entries : ListingMap → TargetFolder → List (Text × Bool)
target_entries l d =
    map (λ n. (n, lists (at l (entry d n)) (codes "main.rs"))) (target_names l d)

-- two maps have the same, but for what else there is: entries that are no targets, and what is answered for them;
-- and what else stands in a folder with `main.rs`
pub record HaveSameTargets (l k : ListingMap) : Type 0 where
  pub source : l.source ≡ k.source
  pub root : l.root ≡ k.root
  pub targets : (d : TargetFolder) → target_entries l d ≡ target_entries k d
  pub memory :
      has_memory_fault (at l) (target_places l) ≡ has_memory_fault (at k) (target_places k)

-- an entry of a folder of targets that is no target changes nothing
abbrev pub OthersChangeNothing : Type 0
OthersChangeNothing =
    (m : Manifest) (l k : ListingMap) → HaveSameTargets l k → completed m l ≡ completed m k
