-- What is looked up while a list of targets is completed: the path of a name, and whether a path is taken.
use Rattle.manifest_schema.specs.Prelude.{Bor, nat_cmp, slice_cmp, BTreeMap, get_by, BTreeSet, Text}
use Rattle.std.specs.Prelude.{◌≡◌, List, map, option_map, Option}
use Rattle.manifest_completion.specs.Finds.{Discovered}
use Rattle.manifest_completion.specs.Targets.{first_path, has_path}

-- the path that a map has for a name
abbrev pub path_at : BTreeMap (Bor Text) (Bor Text) → Text → Option Text
path_at m n =
    option_map (λ (p : Bor Text). p.now) (get_by (λ (k : Bor Text). slice_cmp nat_cmp n k.now) m)

-- for each name the map has the path of the first of these finds that has it
abbrev pub Indexes : BTreeMap (Bor Text) (Bor Text) → List Discovered → Type 0
Indexes m fs = (n : Text) → path_at m n ≡ first_path fs n

-- the paths in a set
abbrev pub paths_in : BTreeSet (Bor Text) → List Text
paths_in s = map (λ (p : Bor Text). p.now) s.keys

-- the same paths, in any order and number
abbrev pub SamePaths : List Text → List Text → Type 0
SamePaths ps qs = (q : Text) → has_path ps q ≡ has_path qs q
