-- The targets for which no file is found are those that completion leaves without a path.
use Rattle.manifest_schema.specs.Prelude.{fun_ext, flat_map, is_some, Contains, AllByRecursion, ErrorKind, Text, Path, Product, Package, Manifest}
use Rattle.std.proofs.Common.{◌≡◌, ◌↔◌, ℕ, suc, List, [], ◌∷◌, ◌++◌, Bool, true, false, refl, ap, sym, ◌∙◌, map, length, drop, Option, Some, None, if◌then◌else◌, subst, Ok}
use Rattle.std.proofs.lemmas.List.Elements.{All-from_recursion, All-append, All-contains, Contains-push, Contains-append_left}
use Rattle.std.specs.List.{All}
use Rattle.manifest_completion.specs.Listings.{Answer, TargetFolder, target_folders, ListingMap, at}
use Rattle.manifest_completion.specs.Finds.{Discovered, discovered, list_finds}
use Rattle.manifest_completion.specs.Targets.{pathed, has_path, added, found, paths_of, Defaults, with_defaults, targets}
use Rattle.manifest_completion.specs.Completed.{PackageTargets, Library, no_file, known, library, declared, defaults, completed_list, filled, completed_to, refused, no_library, completed_targets, after_library, after_root, root_fault, target_places, has_memory_fault, targets_in, targets_of, with_targets, completion_with, completed_by}
use Rattle.manifest_completion.specs.Unfound.{as_completed, place_in, without_path, library_place, unfound_library, list_key, unfound_in, unfound_from, HavePaths, AreLeftWithoutPath, UnfoundAreLeft, RefusedIfUnfound}
use Rattle.manifest_completion.proofs.CompletedLaws.{IsCalm, done_calm, filled_list, completed_once}

-- WHAT IS ADDED has a path
added_have : (d : Defaults) (had : List Text) (fs : List Discovered) → HavePaths (map (with_defaults d) (added had fs))
added_have d had [] = tt
added_have d had (f ∷ fs) = one (has_path had f.path) (added_have d (had ++ f.path ∷ []) fs)
  where
    one : (b : Bool) → HavePaths (map (with_defaults d) (added (had ++ f.path ∷ []) fs))
        → HavePaths (map (with_defaults d) ((if b then [] else found f ∷ []) ++ added (had ++ f.path ∷ []) fs))
    one true h = h
    one false h = (refl, h)

more_have : (d : Defaults) (on : Bool) (had : List Text) (fs : List Discovered)
    → HavePaths (map (with_defaults d) (if on then added had fs else []))
more_have d true had fs = added_have d had fs
more_have d false had fs = tt

none_without : (k : Text) (i : ℕ) (ps : List Product) → HavePaths ps → without_path k i ps ≡ []
none_without k i [] h = refl
none_without k i (p ∷ ps) h = rw h.0 (none_without k (suc i) ps h.1)

-- what follows the declared targets has a path, and is not among those without
declared_without : (k : Text) (i : ℕ) (d : Defaults) (fs : List Discovered) (ps more : List Product)
    → HavePaths (map (with_defaults d) more)
    → without_path k i (map (with_defaults d) (map (pathed fs) ps ++ more)) ≡ without_path k i (as_completed d fs ps)
declared_without k i d fs [] more h = none_without k i (map (with_defaults d) more) h
declared_without k i d fs (p ∷ ps) more h =
    ap (λ (qs : List Path). (if is_some (with_defaults d (pathed fs p)).path then [] else place_in k i ∷ []) ++ qs)
    (declared_without k (suc i) d fs ps more h)

later_have : (d : Defaults) (fs : List Discovered) (ps more : List Product) → HavePaths (map (with_defaults d) more)
    → HavePaths (drop (length ps) (map (with_defaults d) (map (pathed fs) ps ++ more)))
later_have d fs [] more h = h
later_have d fs (p ∷ ps) more h = later_have d fs ps more h

targets_without : (k : Text) (d : Defaults) (on : Bool) (fs : List Discovered) (ps : List Product)
    → without_path k 0 (targets d on fs ps) ≡ without_path k 0 (as_completed d fs ps)
targets_without k d on fs ps = declared_without k 0 d fs ps _ (more_have d on (paths_of (map (pathed fs) ps)) fs)

targets_have : (d : Defaults) (on : Bool) (fs : List Discovered) (ps : List Product)
    → HavePaths (drop (length ps) (targets d on fs ps))
targets_have d on fs ps = later_have d fs ps _ (more_have d on (paths_of (map (pathed fs) ps)) fs)

-- THE MANIFEST
filled_left : (p : Package) (m : Manifest) (l : ListingMap) (lib : Option Product) → m.«package» ≡ Some p
    → IsCalm (targets_of p m) l lib → AreLeftWithoutPath m (with_targets p m (filled (targets_of p m) lib l)) l
unfolding unfound_from
filled_left p m l lib e c =
    let t = targets_of p m in let n = with_targets p m (filled t lib l) in
    let is : (d : TargetFolder) → targets_in n d ≡ completed_list t l.source (discovered l) d = filled_list p m lib l in
    let left : unfound_in t l.source (discovered l) ≡ (λ d. without_path (list_key d) 0 (targets_in n d)) =
    fun_ext (λ d. sym (ap (without_path (list_key d) 0) (is d) ∙ targets_without (list_key d) _ _ _ (declared t d))) in
    record {
      unfound = rw (e, c.source, c.memory, c.library)
          (ap (λ (f : TargetFolder → List Path). Ok (flat_map f target_folders)) left);
      added = λ d. subst (λ (ps : List Product). HavePaths (drop (length (targets_in m d)) ps)) (sym (is d))
          (targets_have _ _ _ (targets_in m d));
    }

pub unfound_are_left : UnfoundAreLeft
unfound_are_left p m n l e h =
    let by : completion_with p m (completed_targets (targets_of p m) l) ≡ completed_to n =
    ap (λ (o : Option Package). completed_by o m l) (sym e) ∙ h in
    let once = completed_once p m n l by in
    let calm = done_calm (targets_of p m) once.0 l once.1 in
    let made : with_targets p m (filled (targets_of p m) calm.0 l) ≡ n = ap (with_targets p m) calm.2 ∙ once.2 in
    subst (λ (x : Manifest). AreLeftWithoutPath m x l) made (filled_left p m l calm.0 e calm.1)

-- THE LIBRARY
abbrev IsOther : Path → Type 0
IsOther q = q ≡ library_place → ⊥

other_place : (k : Text) (i : ℕ) → IsOther (place_in k i)
other_place k i e = cc

others : (k : Text) (i : ℕ) (ps : List Product) → AllByRecursion IsOther (without_path k i ps)
others k i [] = tt
others k i (p ∷ ps) = one (is_some p.path) (others k (suc i) ps)
  where
    one : (b : Bool) → AllByRecursion IsOther (without_path k (suc i) ps) → AllByRecursion IsOther
        ((if b then [] else place_in k i ∷ []) ++ without_path k (suc i) ps)
    one true h = h
    one false h = (other_place k i, h)

all_others : (k : Text) (ps : List Product) → All IsOther (without_path k 0 ps)
all_others k ps = All-from_recursion IsOther (without_path k 0 ps) (others k 0 ps)

lists_other : (t : PackageTargets) (src : Answer) (found : TargetFolder → List Discovered) (ds : List TargetFolder)
    → All IsOther (flat_map (unfound_in t src found) ds)
lists_other t src found [] = All-from_recursion IsOther [] tt
lists_other t src found (d ∷ ds) = All-append IsOther (unfound_in t src found d) (flat_map (unfound_in t src found) ds)
    (all_others (list_key d) (as_completed (defaults t src d) (list_finds t.name src found d) (declared t d))) (lists_other t src found ds)

-- with a library nothing is refused for want of one
never_without : (p : Package) (m : Manifest) (l : ListingMap) (lib : Option Product)
    → completion_with p m (after_library (targets_of p m) l (known lib)) ≡ no_library → ⊥
never_without p m l lib h = one (has_memory_fault (at l) (target_places l)) (root_fault p.build l.root) h
  where
    one : (b : Bool) (k : Option ErrorKind)
        → completion_with p m (if b then refused ErrorKind.OutOfMemory else after_root (targets_of p m) lib l
        k) ≡ no_library → ⊥
    one true k e = cc
    one false (Some k) e = cc
    one false None e = cc

by_library : (p : Package) (m : Manifest) (l : ListingMap) (c : Library) (xs : List Path) → All IsOther xs
    → (completion_with p m (after_library (targets_of p m) l c) ≡ no_library)
    ↔ Contains (unfound_library c ++ xs) library_place
by_library p m l no_file xs x = (
  λ h. Contains-append_left (library_place ∷ []) xs library_place (Contains-push [] library_place),
  λ h. refl,
)
by_library p m l (known lib) xs x = (
  λ h. absurd (never_without p m l lib h),
  λ h. absurd (All-contains IsOther xs library_place x h refl),
)

pub refused_if_unfound : RefusedIfUnfound
unfolding unfound_from
refused_if_unfound p m l e none =
    let t = targets_of p m in
    rw (e, none) (by_library p m l (library t l.source) _ (lists_other t l.source (discovered l) target_folders))
