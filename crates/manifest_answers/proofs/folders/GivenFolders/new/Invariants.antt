use Rattle.manifest_schema.specs.Prelude.{iter_rest, Text}
use Rattle.std.proofs.Common.{◌≡◌, ◌++◌, List}
use Rattle.manifest_answers.specs.declared.folders.Folder.{Folder}
use Rattle.manifest_answers.specs.Given.{folder_at, AreListings, listed_at}
use Rattle.manifest_answers.proofs.folders.GivenFolders.new.Given as goal

-- the folders that it has gone over are listings, and the map answers as they do
abbrev pub invariant-loop-folder : goal.invariant-loop-folder
invariant-loop-folder l =
    (done : List Folder) × (l.folders ≡ iter_rest l.folder-iterator.iter ++ done)
    × AreListings done × ((path : Text) → listed_at l.by_path path ≡ folder_at done path)
