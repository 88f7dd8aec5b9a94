-- A list of targets: filled in from the finds, added to, and given its defaults.
use Rattle.manifest_schema.specs.Prelude.{option_or, list_any, bytes_eq, Text, Edition, Product}
use Rattle.std.specs.Prelude.{List, [], ◌∷◌, ◌++◌, map, if◌then◌else◌, Option, Some, None, Bool, true, false}
use Rattle.manifest_completion.specs.Finds.{Discovered}

-- FILL: a target with a name and no path takes the path of the first find of its name
abbrev pub first_path : List Discovered → Text → Option Text
first_path [] n = None
first_path (f ∷ fs) n = if bytes_eq n f.name then Some f.path else first_path fs n

abbrev pub path_by_name : List Discovered → Option Text → Option Text
path_by_name fs None = None
path_by_name fs (Some n) = first_path fs n

abbrev pub pathed : List Discovered → Product → Product
pathed fs p = record p { path = option_or p.path (path_by_name fs p.name) }

-- ADD: the finds whose path no target has and no earlier find has, each as a target with its name and path
abbrev pub paths_with : Option Text → List Text → List Text
paths_with None qs = qs
paths_with (Some q) qs = q ∷ qs

-- the paths of some targets
abbrev pub paths_of : List Product → List Text
paths_of [] = []
paths_of (p ∷ ps) = paths_with p.path (paths_of ps)

abbrev pub has_path : List Text → Text → Bool
has_path qs q = list_any (bytes_eq q) qs

-- a target as it is found: its path and name, and all else as where its table says no more
abbrev pub found : Discovered → Product
found f = record {
  path = Some f.path;
  name = Some f.name;
  test = true;
  doctest = true;
  bench = true;
  doc = true;
  plugin = false;
  proc_macro = false;
  harness = true;
  edition = None;
  required_features = [];
  crate_type = None;
}

-- the finds whose path is not among these, and that no earlier find has
abbrev pub added : List Text → List Discovered → List Product
added had [] = []
added had (f ∷ fs) =
    (if has_path had f.path then [] else found f ∷ []) ++ added (had ++ f.path ∷ []) fs

-- DEFAULTS: what a target takes where it has none
pub record Defaults : Type 0 where
  pub edition : Option Edition
  pub crate_type : Option (List Text)
  pub path : Option Text

abbrev pub with_defaults : Defaults → Product → Product
with_defaults d p = record p {
  path = option_or p.path d.path;
  edition = option_or p.edition d.edition;
  crate_type = option_or p.crate_type d.crate_type;
}

-- A COMPLETED LIST of targets: filled in, added to where `on` says so, and then given its defaults
abbrev pub targets : Defaults → Bool → List Discovered → List Product → List Product
targets d on fs ps =
    let filled = map (pathed fs) ps in
    map (with_defaults d) (filled ++ (if on then added (paths_of filled) fs else []))
