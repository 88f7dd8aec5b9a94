-- What is declared stays, and entries that are no targets change nothing.
use Rattle.manifest_schema.specs.Prelude.{fun_ext, option_or, filter, flat_map, ErrorKind, OutOfMemory, Text, underscored, Product, Package, Manifest}
use Rattle.std.proofs.Common.{◌≡◌, List, [], ◌∷◌, ◌++◌, Bool, true, false, refl, ap, ap₂, sym, ◌∙◌, map, Option, Some, None, if◌then◌else◌, ◌||◌, subst, codes, is_some}
use Rattle.manifest_completion.specs.Listings.{Answer, lists, names_of, TargetFolder, folder, entry, folder_text, joined, ListingMap, at}
use Rattle.manifest_completion.specs.Finds.{Discovered, stem, discovered_file_of, discovered_file, discovered_in_entry, discovered}
use Rattle.manifest_completion.specs.Targets.{path_by_name, pathed, Defaults, with_defaults, targets}
use Rattle.manifest_completion.specs.Completed.{PackageTargets, own_edition, library_type, Library, no_file, known, library_path, declared_library, library_of, library, source_fault, after_root, after_library, after_source, root_fault, filled_by, filled, refused, completed_to, completed_targets, target_places, has_memory_fault, targets_in, targets_of, with_targets, completion_with, completed_by}
use Rattle.manifest_completion.specs.Unchanged.{Stays, IsKept, AreKept, DeclaredLibraryIsKept, DeclaredAreKept, DeclaredStays, is_target, target_names, target_entries, HaveSameTargets, OthersChangeNothing}
use Rattle.manifest_completion.proofs.CompletedLaws.{IsCalm, done_calm, filled_list, completed_once}

-- WHAT IS THERE
stays_or : {A : Type 0} (a b : Option A) → Stays a (option_or a b)
stays_or None b = tt
stays_or (Some x) b = refl

stays_twice : {A : Type 0} (a b c : Option A) → Stays a (option_or (option_or a b) c)
stays_twice None b c = tt
stays_twice (Some x) b c = refl

stays_same : {A : Type 0} (a : Option A) → Stays a a
stays_same None = tt
stays_same (Some x) = refl

-- LISTS OF TARGETS
kept : (d : Defaults) (fs : List Discovered) (p : Product) → IsKept p (with_defaults d (pathed fs p))
kept d fs p = record {
  path = stays_twice p.path (path_by_name fs p.name) d.path;
  edition = stays_or p.edition d.edition;
  crate_type = stays_or p.crate_type d.crate_type;
  all_else = refl;
}

all_kept : (d : Defaults) (fs : List Discovered) (ps more : List Product)
    → AreKept ps (map (with_defaults d) (map (pathed fs) ps ++ more))
all_kept d fs [] more = tt
all_kept d fs (p ∷ ps) more = (kept d fs p, all_kept d fs ps more)

targets_kept : (d : Defaults) (on : Bool) (fs : List Discovered) (ps : List Product) → AreKept ps (targets d on fs ps)
targets_kept d on fs ps = all_kept d fs ps _

same_kept : (ps : List Product) → AreKept ps ps
same_kept [] = tt
same_kept (p ∷ ps) = (
  record {
    path = stays_same p.path;
    edition = stays_same p.edition;
    crate_type =
        stays_same p.crate_type;
    all_else = refl;
  },
  same_kept ps,
)

-- THE LIBRARY
library_kept : (t : PackageTargets) (lib : Product) (q : Option Text) (out : Option Product) → (Stays lib.path q)
    → declared_library t lib q ≡ known out → DeclaredLibraryIsKept (Some lib) out
library_kept t lib None out s h = cc
library_kept t lib (Some q) out s h =
    let made : Option Product = Some (record lib {
      path = Some q;
      name = option_or lib.name (Some (underscored t.name));
      edition = option_or lib.edition (own_edition t.edition);
      required_features = [];
      crate_type =
          option_or lib.crate_type (Some library_type);
    }) in
    let is : made ≡ out = cc h in
    let kept : DeclaredLibraryIsKept (Some lib) made = record {
      path = s;
      name = stays_or lib.name _;
      edition =
          stays_or lib.edition _;
      crate_type = stays_or lib.crate_type _;
    } in
    subst (λ (o : Option Product). DeclaredLibraryIsKept (Some lib) o) is kept

same_library : (lib : Option Product) → DeclaredLibraryIsKept lib lib
same_library None = tt
same_library (Some lib) = record {
  path = stays_same lib.path;
  name = stays_same lib.name;
  edition =
      stays_same lib.edition;
  crate_type = stays_same lib.crate_type;
}

library_from : (t : PackageTargets) (lib : Option Product) (src : Answer) (out : Option Product)
    → library_of t lib src ≡ known out → DeclaredLibraryIsKept lib out
library_from t None src out h = tt
library_from t (Some lib) src out h = library_kept t lib (library_path t src lib) out (stays_or lib.path _) h

-- WHAT IS DECLARED
filled_kept : (p : Package) (m : Manifest) (l : ListingMap) (lib : Option Product) → IsCalm (targets_of p m) l lib
    → DeclaredAreKept m (with_targets p m (filled (targets_of p m) lib l))
unfolding filled_by
filled_kept p m l lib c = record {
  lib = library_from (targets_of p m) m.lib l.source lib c.library;
  lists = λ d. subst (AreKept (targets_in m d)) (sym (filled_list p m lib l d)) (targets_kept _ _ _ (targets_in m d));
}

declared_by : (o : Option Package) (m n : Manifest) (l : ListingMap) → completed_by o m l ≡ completed_to n
    → DeclaredAreKept m n
declared_by None m n l h =
    let same : m ≡ n = cc h in
    subst (DeclaredAreKept m) same (record {
      lib = same_library m.lib;
      lists = λ d. same_kept (targets_in m d);
    })
declared_by (Some p) m n l h =
    let once = completed_once p m n l h in
    let calm = done_calm (targets_of p m) once.0 l once.1 in
    let made : with_targets p m (filled (targets_of p m) calm.0 l) ≡ n = ap (with_targets p m) calm.2 ∙ once.2 in
    subst (DeclaredAreKept m) made (filled_kept p m l calm.0 calm.1)

pub declared_stays : DeclaredStays
declared_stays m n l h = declared_by m.«package» m n l h

-- ENTRIES THAT ARE NO TARGETS
none_discovered_by : (d n : Text) (f : Discovered) (s : Option Text) (b : Bool) → (is_some s || b) ≡ false
    → discovered_file_of d n s ++ (if b then f ∷ [] else []) ≡ []
none_discovered_by d n f None false e = refl
none_discovered_by d n f None true e = cc
none_discovered_by d n f (Some s) b e = cc

none_discovered : (d n : Text) (a : Answer) → is_target n a ≡ false → discovered_in_entry d n a ≡ []
none_discovered d n a e = none_discovered_by d n _ (stem n) (lists a (codes "main.rs")) e

by_targets : (g : Text → List Discovered) (test : Text → Bool) → ((n : Text) → test n ≡ false → g n ≡ [])
    → (ns : List Text) → flat_map g ns ≡ flat_map g (filter test ns)
by_targets g test none [] = refl
by_targets g test none (n ∷ ns) = one (test n) refl (by_targets g test none ns)
  where
    one : (b : Bool) → test n ≡ b → flat_map g ns ≡ flat_map g (filter test ns) → g n ++ flat_map g ns ≡ flat_map g
        (if b then n ∷ filter test ns else filter test ns)
    one true e same = ap (λ fs. g n ++ fs) same
    one false e same = rw (none n e) same

-- the finds of an entry, by its name and whether it is a folder with `main.rs`
abbrev discovered_of : Text → Text × Bool → List Discovered
discovered_of d e =
    discovered_file d e.0 ++ (if e.1 then record { name = e.0; path = joined (joined d e.0) (codes "main.rs") }
    ∷ [] else [])

-- so the finds of a folder depend on its entries that are targets alone
by_entries : (l : ListingMap) (d : TargetFolder) → discovered l d ≡ flat_map (discovered_of (folder_text d))
    (target_entries l d)
by_entries l d =
    by_targets own (λ n. is_target n (at l (entry d n))) (λ n e. none_discovered (folder_text d) n (at l (entry d n)) e)
    (names_of (at l (folder d)))
    ∙ each (target_names l d)
  where
    own : Text → List Discovered
    own n = discovered_in_entry (folder_text d) n (at l (entry d n))

    each : (ns : List Text) → flat_map own ns
        ≡ flat_map (discovered_of (folder_text d)) (map (λ n. (n, lists (at l (entry d n)) (codes "main.rs"))) ns)
    each [] = refl
    each (n ∷ ns) = ap (λ fs. own n ++ fs) (each ns)

module _ (l k : ListingMap) (h : HaveSameTargets l k) where
  same_discovered : (d : TargetFolder) → discovered l d ≡ discovered k d
  same_discovered d = by_entries l d ∙ ap (flat_map (discovered_of (folder_text d))) (h.targets d)
      ∙ sym (by_entries k d)

  same_filled : (t : PackageTargets) (lib : Option Product) → filled t lib l ≡ filled t lib k
  same_filled t lib = rw (h.source, h.root) (ap (filled_by t lib k.source k.root) (fun_ext same_discovered))

  by_root : (t : PackageTargets) (lib : Option Product) (r : Option ErrorKind) → after_root t lib l r ≡ after_root t lib
      k r
  by_root t lib (Some e) = refl
  by_root t lib None = ap completed_to (same_filled t lib)

  by_library : (t : PackageTargets) (c : Library) → after_library t l c ≡ after_library t k c
  by_library t no_file = refl
  by_library t (known lib) =
      ap₂ (λ b r. if b then refused OutOfMemory else after_root t lib l (root_fault t.build r)) h.memory h.root
      ∙ ap (λ x. if has_memory_fault (at k) (target_places k) then refused OutOfMemory else x)
      (by_root t lib (root_fault t.build k.root))

  by_source : (t : PackageTargets) (s : Option ErrorKind) → after_source t l s ≡ after_source t k s
  by_source t (Some e) = refl
  by_source t None = ap (λ a. after_library t l (library t a)) h.source ∙ by_library t (library t k.source)

  same_targets : (t : PackageTargets) → completed_targets t l ≡ completed_targets t k
  same_targets t = ap (λ a. after_source t l (source_fault a)) h.source ∙ by_source t (source_fault k.source)

  same_by : (o : Option Package) (m : Manifest) → completed_by o m l ≡ completed_by o m k
  same_by None m = refl
  same_by (Some p) m = ap (completion_with p m) (same_targets (targets_of p m))

pub others_change_nothing : OthersChangeNothing
others_change_nothing m l k h = same_by l k h m.«package» m
