-- The targets that the listings of a folder hold, each with its name and its path.
use Rattle.manifest_schema.specs.Prelude.{flat_map, ends_with, Text}
use Rattle.std.specs.Prelude.{◌-◌, ◌&&◌, List, [], ◌∷◌, ◌++◌, codes, if◌then◌else◌, Option, Some, None, length, take, nat_eq}
use Rattle.manifest_completion.specs.Listings.{Answer, TargetFolder, is_bins, folder, entry, folder_text, joined, ListingMap, at, names_of, lists}

-- a target that was found
pub record Discovered : Type 0 where
  pub name : Text
  pub path : Text

-- a name without its ending `.rs`
abbrev pub stem : Text → Option Text
stem n = if ends_with nat_eq n (codes ".rs") then Some (take (length n - 3) n) else None

-- the entry n of the folder d, where it is a file of Rust
abbrev pub discovered_file_of : Text → Text → Option Text → List Discovered
discovered_file_of d n None = []
discovered_file_of d n (Some s) = record { name = s; path = joined d n } ∷ []

abbrev pub discovered_file : Text → Text → List Discovered
discovered_file d n = discovered_file_of d n (stem n)

-- the entry n of the folder d, where its own listing has `main.rs`
abbrev pub discovered_folder : Text → Text → Answer → List Discovered
discovered_folder d n a =
    if lists a (codes "main.rs")
    then record { name = n; path = joined (joined d n) (codes "main.rs") } ∷ []
    else []

abbrev pub discovered_in_entry : Text → Text → Answer → List Discovered
discovered_in_entry d n a = discovered_file d n ++ discovered_folder d n a

-- THE FINDS of a folder of targets: those of its names, in the order of bytes
abbrev pub discovered : ListingMap → TargetFolder → List Discovered
discovered l d =
    flat_map (λ n. discovered_in_entry (folder_text d) n (at l (entry d n))) (names_of (at l (folder d)))

-- `src/main.rs`, which is a binary and has the name of the package
abbrev pub discovered_main : Text → Answer → TargetFolder → List Discovered
discovered_main own src d =
    if is_bins d && lists src (codes "main.rs")
    then record { name = own; path = codes "src/main.rs" } ∷ []
    else []

-- THE FINDS OF A LIST, of what is found in its folder: of the binaries `src/main.rs` is one too, the last
abbrev pub list_finds :
    Text → Answer → (TargetFolder → List Discovered) → TargetFolder → List Discovered
list_finds own src fs d = fs d ++ discovered_main own src d
