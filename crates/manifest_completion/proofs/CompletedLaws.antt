-- A completed manifest is completed, and is well-formed where the manifest was.
use Rattle.manifest_schema.specs.Prelude.{option_or, AllByRecursion, ErrorKind, Data, Text, Kind, good_some, form, IsSound, underscored, StringOrBool, a_text, a_flag, Product, Package, Manifest, package_rows, well_formed}
use Rattle.std.proofs.Common.{◌≡◌, inl, inr, List, [], ◌∷◌, ◌++◌, Bool, true, false, refl, ap, sym, ◌∙◌, ◌&&◌, Option, Some, None, if◌then◌else◌, subst, codes, unwrap_or}
use Rattle.manifest_schema.proofs.Values.GoodLaws.{package_good, package_metadata_good, manifest_good, manifest_parts_good}
use Rattle.manifest_schema.proofs.Forms.ManifestLaws.{manifest_sound}
use Rattle.manifest_completion.specs.Listings.{Answer, names, fault, lists, is_memory_fault, TargetFolder, Bins, Examples, Tests, Benches, Place, source, ListingMap, at}
use Rattle.manifest_completion.specs.Finds.{discovered, list_finds}
use Rattle.manifest_completion.specs.Targets.{found, targets}
use Rattle.manifest_completion.specs.Completed.{PackageTargets, is_legacy, own_edition, library_type, library_path, Library, no_file, known, declared_library, inferred_library, library_of, library, asks_root, build_of, discovers, declared, own_flag, defaults, completed_list, filled_by, filled, Completion, completed_to, refused, no_library, target_places, has_memory_fault, source_fault, root_fault, completed_targets, targets_in, targets_of, with_targets, completion_with, completed_by, completed, up_to_memory_fault, root_places, asked_targets, asked_by, asked}
use Rattle.manifest_completion.specs.Laws.{IsAmong, IsFixed, CompletedIsFixed}
use Rattle.manifest_completion.proofs.TargetLaws.{or_idem, targets_fixed}

or_same : {A : Type 0} (a : Option A) → option_or a a ≡ a
or_same None = refl
or_same (Some x) = refl

-- LIBRARY
declared_fixed : (t : PackageTargets) (lib : Product) (q : Option Text) (src : Answer) (out : Option Product)
    → declared_library t lib q ≡ known out → library_of t out src ≡ known out
declared_fixed t lib None src out h = cc
declared_fixed t lib (Some r) src out h =
    let made : Option Product = Some (record lib {
      path = Some r;
      name = option_or lib.name (Some (underscored t.name));
      edition = option_or lib.edition (own_edition t.edition);
      required_features = [];
      crate_type =
          option_or lib.crate_type (Some library_type);
    }) in
    let is : made ≡ out = cc h in
    let twice : library_of t made src ≡ known made = rw (
      or_idem lib.name (Some (underscored t.name)),
      or_idem
          lib.edition (own_edition t.edition),
      or_idem lib.crate_type (Some library_type),
    ) refl in
    subst (λ (o : Option Product). library_of t o src ≡ known o) is twice

inferred_fixed : (t : PackageTargets) (src : Answer) (out : Option Product) → inferred_library t src ≡ out
    → library_of t out src ≡ known out
inferred_fixed t src None h = ap known h
inferred_fixed t src (Some lib) h = one (unwrap_or t.autolib true && lists src (codes "lib.rs")) h
  where
    made : Product
    made = record (found (record { path = codes "src/lib.rs"; name = underscored t.name })) {
      edition =
          own_edition t.edition;
      crate_type = Some library_type;
    }

    one : (b : Bool) → (if b then Some made else None) ≡ Some lib → library_of t (Some lib) src ≡ known (Some lib)
    one true e =
        let twice : library_of t (Some made) src ≡ known (Some made) = rw (or_same (own_edition t.edition)) refl in
        subst (λ (o : Option Product). library_of t o src ≡ known o) e twice
    one false e = cc

library_fixed : (t : PackageTargets) (lib out : Option Product) (src : Answer) → library_of t lib src ≡ known out
    → library_of t out src ≡ known out
library_fixed t None out src h = inferred_fixed t src out (cc h)
library_fixed t (Some lib) out src h = declared_fixed t lib (library_path t src lib) src out h

-- BUILD SCRIPT
build_twice : (b : Option StringOrBool) (a : Answer) → build_of (build_of b a) a ≡ build_of b a
build_twice None a = one (lists a (codes "build.rs")) refl
  where
    one : (x : Bool) → lists a (codes "build.rs") ≡ x → build_of (build_of None a) a ≡ build_of None a
    one true e = rw e refl
    one false e = rw e refl
build_twice (Some (a_text s)) a = refl
build_twice (Some (a_flag false)) a = refl
build_twice (Some (a_flag true)) a = one (lists a (codes "build.rs")) refl
  where
    one : (x : Bool) → lists a (codes "build.rs") ≡ x → build_of (build_of (Some (a_flag true)) a) a ≡ build_of
        (Some (a_flag true)) a
    one true e = rw e refl
    one false e = rw e refl

root_calm : (b : Option StringOrBool) (a : Answer) → root_fault b a ≡ None → root_fault (build_of b a) a ≡ None
root_calm b (names ns) h = refl
root_calm None (fault k) h = h
root_calm (Some (a_text s)) (fault k) h = h
root_calm (Some (a_flag true)) (fault k) h = h
root_calm (Some (a_flag false)) (fault k) h = h

-- the folder of the manifest is asked again only where it was asked
root_again : (b : Option StringOrBool) (a : Answer) → asks_root (build_of b a) ≡ true → asks_root b ≡ true
root_again None a e = refl
root_again (Some (a_text s)) a e = e
root_again (Some (a_flag true)) a e = refl
root_again (Some (a_flag false)) a e = e

-- WHAT COMPLETION GIVES, where it refuses nothing
pub record IsCalm (t : PackageTargets) (l : ListingMap) (lib : Option Product) : Type 0 where
  pub source : source_fault l.source ≡ None
  pub library : library_of t t.lib l.source ≡ known lib
  pub memory : has_memory_fault (at l) (target_places l) ≡ false
  pub root : root_fault t.build l.root ≡ None

calm_done : (t : PackageTargets) (l : ListingMap) (lib : Option Product) → IsCalm t l lib
    → completed_targets t l ≡ completed_to (filled t lib l)
calm_done t l lib c = rw (c.source, c.library, c.memory, c.root) refl

pub done_calm : (t u : PackageTargets) (l : ListingMap) → completed_targets t l ≡ completed_to u
    → (lib : Option Product) × IsCalm t l lib × (filled t lib l ≡ u)
done_calm t u l h = by_source (source_fault l.source) (library t l.source) (has_memory_fault (at l) (target_places l))
    (root_fault t.build l.root) refl refl refl refl h
  where
    by_source : (k : Option ErrorKind) (c : Library) (b : Bool) (r : Option ErrorKind) → source_fault l.source ≡ k
        → library t l.source ≡ c → has_memory_fault (at l) (target_places l) ≡ b → root_fault t.build l.root ≡ r
        → completed_targets t l ≡ completed_to u → (lib : Option Product) × IsCalm t l lib × (filled t lib l ≡ u)
    by_source (Some k) c b r e1 e2 e3 e4 x = cc (rw e1 at x)
    by_source None no_file b r e1 e2 e3 e4 x = cc (rw (e1, e2) at x)
    by_source None (known lib) true r e1 e2 e3 e4 x = cc (rw (e1, e2, e3) at x)
    by_source None (known lib) false (Some k) e1 e2 e3 e4 x = cc (rw (e1, e2, e3, e4) at x)
    by_source None (known lib) false None e1 e2 e3 e4 x =
        let calm : IsCalm t l lib = record { source = e1; library = e2; memory = e3; root = e4 } in
        (lib, calm, cc (sym (calm_done t l lib calm) ∙ x))

-- THE SAME AGAIN
calm_again : (t : PackageTargets) (l : ListingMap) (lib : Option Product) → IsCalm t l lib → IsCalm (filled t lib l) l
    lib
unfolding filled_by
calm_again t l lib c = record {
  source = c.source;
  library = library_fixed t t.lib lib l.source c.library;
  memory =
      c.memory;
  root = root_calm t.build l.root c.root;
}

filled_again : (t : PackageTargets) (l : ListingMap) (lib : Option Product) → filled (filled t lib l) lib l ≡ filled t
    lib l
unfolding filled_by
filled_again t l lib = rw (build_twice t.build l.root, again Bins, again Examples, again Tests, again Benches) refl
  where
    again : (d : TargetFolder) → let fs = list_finds t.name l.source (discovered l) d in
        let out = completed_list t l.source (discovered l) d in
        targets (defaults t l.source d) (discovers (own_flag t d) (is_legacy t.edition) out) fs out ≡ out
    again d = targets_fixed (defaults t l.source d) (own_flag t d) (is_legacy t.edition)
        (list_finds t.name l.source (discovered l) d) (declared t d)

-- WHAT IS ASKED AGAIN
wider : (ps qs : List Place) (q : Place) → AllByRecursion (IsAmong qs) ps → AllByRecursion (IsAmong (q ∷ qs)) ps
wider [] qs q h = tt
wider (p ∷ ps) qs q h = (inr h.0, wider ps qs q h.1)

all_among : (ps : List Place) → AllByRecursion (IsAmong ps) ps
all_among [] = tt
all_among (p ∷ ps) = (inl refl, wider ps ps p (all_among ps))

fewer_asked : (f : Place → Answer) (ps qs : List Place) → AllByRecursion (IsAmong (up_to_memory_fault f (ps ++ qs)))
    (up_to_memory_fault f (ps ++ []))
fewer_asked f [] qs = tt
fewer_asked f (p ∷ ps) qs = (inl refl, one (is_memory_fault (f p)) (fewer_asked f ps qs))
  where
    one : (b : Bool) → AllByRecursion (IsAmong (up_to_memory_fault f (ps ++ qs))) (up_to_memory_fault f (ps ++ []))
        → AllByRecursion (IsAmong (p ∷ (if b then [] else up_to_memory_fault f (ps ++ qs))))
        (if b then [] else up_to_memory_fault f (ps ++ []))
    one true k = tt
    one false k = wider _ _ p k

among_same : {ps ps' qs qs' : List Place} → ps ≡ ps' → qs ≡ qs' → AllByRecursion (IsAmong qs') ps'
    → AllByRecursion (IsAmong qs) ps
among_same e f h = rw (e, f) h

asked_calm : (t : PackageTargets) (l : ListingMap) (lib : Option Product) → IsCalm t l lib → asked_targets t l ≡ source
    ∷ up_to_memory_fault (at l) (target_places l ++ root_places (asks_root t.build))
asked_calm t l lib c = rw (c.source, c.library) refl

among_by_root : (l : ListingMap) (again before : Bool) → (again ≡ true → before ≡ true) →
    AllByRecursion (IsAmong (source ∷ up_to_memory_fault (at l) (target_places l ++ root_places before))) (source
    ∷ up_to_memory_fault (at l) (target_places l ++ root_places again))
among_by_root l false before h = (
  inl refl,
  wider (up_to_memory_fault (at l) (target_places l ++ []))
      (up_to_memory_fault (at l) (target_places l ++ root_places before)) source (fewer_asked (at l) (target_places l)
      (root_places before)),
)
among_by_root l true true h = all_among (source ∷ up_to_memory_fault (at l) (target_places l ++ root_places true))
among_by_root l true false h = cc (h refl)

asked_again : (t : PackageTargets) (l : ListingMap) (lib : Option Product) → IsCalm t l lib
    → AllByRecursion (IsAmong (asked_targets t l)) (asked_targets (filled t lib l) l)
unfolding filled_by
asked_again t l lib c = among_same (asked_calm (filled t lib l) l lib (calm_again t l lib c)) (asked_calm t l lib c)
    (among_by_root l (asks_root (build_of t.build l.root)) (asks_root t.build) (root_again t.build l.root))

-- THE MANIFEST
targets_back : (p : Package) (m : Manifest) (lib : Option Product) (l : ListingMap) →
    let u = filled (targets_of p m) lib l in targets_of (record p { build = u.build }) (with_targets p m u) ≡ u
unfolding filled_by
targets_back p m lib l = refl

-- its lists are completed
pub filled_list : (p : Package) (m : Manifest) (lib : Option Product) (l : ListingMap) (d : TargetFolder)
    → targets_in (with_targets p m (filled (targets_of p m) lib l)) d
    ≡ completed_list (targets_of p m) l.source (discovered l) d
unfolding filled_by
filled_list p m lib l Bins = refl
filled_list p m lib l Examples = refl
filled_list p m lib l Tests = refl
filled_list p m lib l Benches = refl

pub completed_once : (p : Package) (m n : Manifest) (l : ListingMap)
    → completion_with p m (completed_targets (targets_of p m) l) ≡ completed_to n
    → (u : PackageTargets) × (completed_targets (targets_of p m) l ≡ completed_to u) × (with_targets p m u ≡ n)
completed_once p m n l h = by_completion (completed_targets (targets_of p m) l) refl h
  where
    by_completion : (c : Completion PackageTargets) → completed_targets (targets_of p m) l ≡ c
        → completion_with p m c ≡ completed_to n
        → (u : PackageTargets) × (completed_targets (targets_of p m) l ≡ completed_to u) × (with_targets p m u ≡ n)
    by_completion (completed_to u) e x = (u, e, cc x)
    by_completion (refused k) e x = cc
    by_completion no_library e x = cc

still_well_formed : (K W : Kind Data) (p : Package) (m : Manifest) (u : PackageTargets) → m.«package» ≡ Some p
    → well_formed K W m → well_formed K W (with_targets p m u)
still_well_formed K W p m u e g =
    let parts = manifest_parts_good K W m g in
    let own : (form (package_rows K)).good p = subst (λ (o : Option Package). good_some (form (package_rows K)) o) e
    parts.0 in
    manifest_good K W (with_targets p m u) (package_good K (record p { build = u.build }) (package_metadata_good K p
    own)) parts.1 parts.2 parts.3

module _ (K W : Kind Data) (k : IsSound K) (w : IsSound W) where
  fixed_targets : (p : Package) (m : Manifest) (l : ListingMap) (lib : Option Product) → m.«package» ≡ Some p
      → well_formed K W m → IsCalm (targets_of p m) l lib
      → IsFixed K W m (with_targets p m (filled (targets_of p m) lib l)) l
  fixed_targets p m l lib e g c =
      let t = targets_of p m in let u = filled t lib l in let n = with_targets p m u in let q : Package =
      record p { build = u.build } in
      let formed = still_well_formed K W p m u e g in
      let done : completed_targets u l ≡ completed_to u = calm_done u l lib (calm_again t l lib c)
      ∙ ap completed_to (filled_again t l lib) in
      let twice : completed n l ≡ completed_to n = ap (λ (v : PackageTargets). completion_with q n
      (completed_targets v l)) (targets_back p m lib l) ∙ ap (completion_with q n) done in
      let before : asked m l ≡ asked_targets t l = ap (λ (o : Option Package). asked_by o m l) e in
      let after : asked n l ≡ asked_targets u l = ap (λ (v : PackageTargets). asked_targets v l)
      (targets_back p m lib l) in
      record {
        formed = formed;
        read = ((manifest_sound K W k w).back n formed).0;
        unchanged = twice;
        asked = among_same after before (asked_again t l lib c);
      }

  by_package : (o : Option Package) (m n : Manifest) (l : ListingMap) → m.«package» ≡ o → well_formed K W m
      → completed_by o m l ≡ completed_to n → IsFixed K W m n l
  by_package None m n l e g h =
      let same : m ≡ n = cc h in
      let itself : completed m l ≡ completed_to m = ap (λ (o : Option Package). completed_by o m l) e in
      subst (λ (x : Manifest). IsFixed K W m x l) same
      (record {
        formed = g;
        read = ((manifest_sound K W k w).back m g).0;
        unchanged = itself;
        asked = all_among (asked m l);
      })
  by_package (Some p) m n l e g h =
      let once = completed_once p m n l h in
      let calm = done_calm (targets_of p m) once.0 l once.1 in
      let made : with_targets p m (filled (targets_of p m) calm.0 l) ≡ n = ap (with_targets p m) calm.2 ∙ once.2 in
      subst (λ (x : Manifest). IsFixed K W m x l) made (fixed_targets p m l calm.0 e g calm.1)

  pub completed_fixed : CompletedIsFixed K W
  completed_fixed m n l g h = by_package m.«package» m n l refl g h
