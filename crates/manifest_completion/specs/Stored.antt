-- What is stored at path texts, by `Listings` or another filesystem, and the map of listings of it.
use Rattle.manifest_schema.specs.Prelude.{BTreeMap, get_by_text, Global, NotFound, OutOfMemory, Other, Text}
use Rattle.std.specs.Prelude.{◌≡◌, String, Option, Some, None, ◌⊎◌, map}
use Rattle.manifest_completion.specs.declared.listings.Listing.{Listing}
use Rattle.manifest_completion.specs.declared.listings.Listing.TheVariants.{Names, Fault}
use Rattle.manifest_completion.specs.Listings.{Answer, names, fault, names_of, TargetFolder, source, folder, entry, root, path_text, FolderListing, ListingMap}
use Rattle.manifest_completion.specs.Answered.{set_names}

-- LISTINGS: the answer of what was put, or NotFound
abbrev pub stored_answer : Option Listing → Answer
stored_answer None = fault NotFound
stored_answer (Some (Names s)) = names (set_names s)
stored_answer (Some Fault) = fault Other

-- at a path text
abbrev pub stored_at : BTreeMap (String Global) Listing → Text → Answer
stored_at m path = stored_answer (get_by_text m path)

-- A FILESYSTEM WITH ONE ANSWER for each path text: `stored`
-- that answer, or no memory for a copy of it
abbrev pub AnswersAsStored : (Text → Answer) → Text → Answer → Type 0
AnswersAsStored stored path a = (a ≡ stored path) ⊎ (a ≡ fault OutOfMemory)

-- the folder's own answer, and that of each of its names
abbrev pub stored_folder : (Text → Answer) → TargetFolder → FolderListing
stored_folder stored d = record {
  own = stored (path_text (folder d));
  entries =
      map (λ n. (n, stored (path_text (entry d n)))) (names_of (stored (path_text (folder d))));
}

-- THE MAP OF WHAT IS STORED: at each folder, and at each name in a folder of targets, the answer for its path text
abbrev pub stored_map : (Text → Answer) → ListingMap
stored_map stored = record {
  source = stored (path_text source);
  folders = stored_folder stored;
  root = stored (path_text root);
}
