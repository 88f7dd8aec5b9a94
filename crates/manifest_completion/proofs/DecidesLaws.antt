-- The answers at the places that are asked decide what is asked and what a manifest becomes.
use Rattle.manifest_schema.specs.Prelude.{fun_ext, or_parts, append-nil, AllByRecursion, flat_map, ErrorKind, OutOfMemory, Text, StringOrBool, a_text, a_flag, Product, Package}
use Rattle.std.proofs.Common.{◌≡◌, List, [], ◌∷◌, ◌++◌, Bool, true, false, refl, ap, sym, ◌∙◌, map, Option, Some, None, if◌then◌else◌, ◌||◌, subst}
use Rattle.manifest_completion.specs.Listings.{Answer, names, fault, names_of, is_memory_fault, TargetFolder, target_folders, Place, source, folder, entry, root, folder_text, ListingMap, at}
use Rattle.manifest_completion.specs.Finds.{Discovered, discovered_in_entry, discovered}
use Rattle.manifest_completion.specs.Completed.{PackageTargets, folder_places, target_places, root_places, up_to_memory_fault, has_memory_fault, asks_root, root_fault_if, root_fault, build_of, Library, no_file, known, library, source_fault, after_root, filled_by, filled, completed_to, refused, completed_targets, asked_targets, completed_by, asked_by, completion_with, targets_of}
use Rattle.manifest_completion.specs.Laws.{AgreeAt, AskedDecides}
use Rattle.manifest_completion.proofs.AskLemmas.{every}
use Rattle.manifest_completion.proofs.AskedLaws.{places_of, together}

-- LISTS OF PLACES
stopped_same : (b : Bool) (xs ys : List Place) → (b ≡ false → xs ≡ ys) → (if b then [] else xs) ≡ (if b then [] else ys)
stopped_same true xs ys h = refl
stopped_same false xs ys h = h refl

pub goes_on : (P : Place → Type 0) (b : Bool) (ps : List Place) → AllByRecursion P (if b then [] else ps) → b ≡ false
    → AllByRecursion P ps
goes_on P true ps h e = cc
goes_on P false ps h e = h

pub stops_or : (P : Place → Type 0) (b : Bool) (ps : List Place) → (b ≡ false → AllByRecursion P ps)
    → AllByRecursion P (if b then [] else ps)
stops_or P true ps h = tt
stops_or P false ps h = h refl

-- a place for which memory ran out is among those up to the first
pub memory_seen : (f : Place → Answer) (ps : List Place)
    → has_memory_fault f (up_to_memory_fault f ps) ≡ has_memory_fault f ps
memory_seen f [] = refl
memory_seen f (p ∷ ps) = one (is_memory_fault (f p)) (memory_seen f ps)
  where
    one : (b : Bool) → has_memory_fault f (up_to_memory_fault f ps) ≡ has_memory_fault f ps
        → (b || has_memory_fault f (if b then [] else up_to_memory_fault f ps)) ≡ (b || has_memory_fault f ps)
    one true same = refl
    one false same = same

-- a folder of the manifest that is not asked has no fault
unasked : (a : Answer) → root_fault_if false a ≡ None
unasked (names ns) = refl
unasked (fault e) = refl

-- what targets with a library become
pub with_library : (t : PackageTargets) (l : ListingMap) (lib : Option Product) → source_fault l.source ≡ None
    → library t l.source ≡ known lib
    → completed_targets t l ≡ (if has_memory_fault (at l) (target_places l) then refused OutOfMemory else after_root t
    lib l (root_fault t.build l.root))
with_library t l lib none got = rw (none, got) refl

module _ (l k : ListingMap) where
  -- the maps agree at these places, up to the first for which memory ran out
  abbrev pub AgreeUpTo : List Place → Type 0
  AgreeUpTo ps = AgreeAt l k (up_to_memory_fault (at l) ps)

  asked_after : (ps xs ys : List Place) → AgreeUpTo (ps ++ xs)
      → (AgreeUpTo xs → up_to_memory_fault (at l) xs ≡ up_to_memory_fault (at k) ys)
      → up_to_memory_fault (at l) (ps ++ xs) ≡ up_to_memory_fault (at k) (ps ++ ys)
  asked_after [] xs ys h rest = rest h
  asked_after (p ∷ ps) xs ys h rest =
      rw (sym h.0) (ap (λ (qs : List Place). p ∷ qs)
      (stopped_same (is_memory_fault (at l p)) (up_to_memory_fault (at l) (ps ++ xs)) (up_to_memory_fault (at k)
      (ps ++ ys))
      (λ e. asked_after ps xs ys (goes_on (λ q. at l q ≡ at k q) (is_memory_fault (at l p)) (up_to_memory_fault (at l)
      (ps ++ xs)) h.1 e) rest)))

  same_places : (d : TargetFolder) → at l (folder d) ≡ at k (folder d) → folder_places l d ≡ folder_places k d
  same_places d e = ap (λ a. folder d ∷ map (entry d) (names_of a)) e

  folder_asked : (d : TargetFolder) (xs ys : List Place) → AgreeUpTo (folder_places l d ++ xs)
      → (AgreeUpTo xs → up_to_memory_fault (at l) xs ≡ up_to_memory_fault (at k) ys)
      → up_to_memory_fault (at l) (folder_places l d ++ xs) ≡ up_to_memory_fault (at k) (folder_places k d ++ ys)
  folder_asked d xs ys h rest =
      asked_after (folder_places l d) xs ys h rest
      ∙ ap (λ (ps : List Place). up_to_memory_fault (at k) (ps ++ ys)) (same_places d h.0)

  -- the folders of targets and what is asked after them
  targets_asked : (rest : List Place) → (AgreeUpTo rest → up_to_memory_fault (at l) rest ≡ up_to_memory_fault (at k)
      rest)
      → AgreeUpTo (target_places l ++ rest) → up_to_memory_fault (at l) (target_places l ++ rest) ≡ up_to_memory_fault
      (at k) (target_places k ++ rest)
  targets_asked r last h =
      ap (up_to_memory_fault (at l)) (sym (together l r target_folders))
      ∙ each target_folders (subst AgreeUpTo (sym (together l r target_folders)) h)
      ∙ ap (up_to_memory_fault (at k)) (together k r target_folders)
    where
      each : (ds : List TargetFolder) → AgreeUpTo (places_of l r ds)
          → up_to_memory_fault (at l) (places_of l r ds) ≡ up_to_memory_fault (at k) (places_of k r ds)
      each [] g = last g
      each (d ∷ ds) g = folder_asked d (places_of l r ds) (places_of k r ds) g (each ds)

  root_asked : (asks : Bool) → AgreeUpTo (root_places asks) → up_to_memory_fault (at l)
      (root_places asks) ≡ up_to_memory_fault (at k) (root_places asks)
  root_asked true h = rw (sym h.0) (ap (λ (qs : List Place). root ∷ qs) (stopped_same (is_memory_fault l.root) [] []
      (λ e. refl)))
  root_asked false h = refl

  pub targets_alone : AgreeUpTo (target_places l) → up_to_memory_fault (at l) (target_places l) ≡ up_to_memory_fault
      (at k) (target_places k)
  targets_alone h =
      ap (up_to_memory_fault (at l)) (sym (append-nil (target_places l)))
      ∙ targets_asked [] (λ u. refl) (subst AgreeUpTo (sym (append-nil (target_places l))) h)
      ∙ ap (up_to_memory_fault (at k)) (append-nil (target_places k))

  -- OUT OF MEMORY
  pub memory_agrees : (ps : List Place) → AgreeAt l k ps → has_memory_fault (at l) ps ≡ has_memory_fault (at k) ps
  memory_agrees [] h = refl
  memory_agrees (p ∷ ps) h = rw h.0 (ap (λ b. is_memory_fault (at k p) || b) (memory_agrees ps h.1))

  front_agrees : (ps xs : List Place) → AgreeUpTo (ps ++ xs) → AgreeUpTo ps
  front_agrees [] xs h = tt
  front_agrees (p ∷ ps) xs h = (
    h.0,
    stops_or (λ q. at l q ≡ at k q) (is_memory_fault (at l p)) (up_to_memory_fault (at l) ps)
        (λ e. front_agrees ps xs (goes_on (λ q. at l q ≡ at k q) (is_memory_fault (at l p)) (up_to_memory_fault (at l)
        (ps ++ xs)) h.1 e)),
  )

  -- where memory did not run out at the first places, all of them were asked, and those after them
  pub all_asked : (ps xs : List Place) → has_memory_fault (at l) ps ≡ false → AgreeUpTo (ps ++ xs) → AgreeAt l k ps
      × AgreeUpTo xs
  all_asked [] xs e h = (tt, h)
  all_asked (p ∷ ps) xs e h =
      let calm = or_parts (is_memory_fault (at l p)) (has_memory_fault (at l) ps) e in
      let more = all_asked ps xs calm.1 (goes_on (λ q. at l q ≡ at k q) (is_memory_fault (at l p))
      (up_to_memory_fault (at l) (ps ++ xs)) h.1 calm.0) in
      ((h.0, more.0), more.1)

  -- FINDS
  same_entries : (d : TargetFolder) (ns : List Text) → AgreeAt l k (map (entry d) ns)
      → flat_map (λ n. discovered_in_entry (folder_text d) n (at l (entry d n))) ns ≡ flat_map
      (λ n. discovered_in_entry (folder_text d) n (at k (entry d n))) ns
  same_entries d [] h = refl
  same_entries d (n ∷ ns) h = rw h.0 (ap (λ (fs : List Discovered). discovered_in_entry (folder_text d) n
      (at k (entry d n)) ++ fs) (same_entries d ns h.1))

  same_discovered : (d : TargetFolder) → AgreeAt l k (folder_places l d) → discovered l d ≡ discovered k d
  same_discovered d h =
      same_entries d (names_of (at l (folder d))) h.1
      ∙ ap (λ a. flat_map (λ n. discovered_in_entry (folder_text d) n (at k (entry d n))) (names_of a)) h.0

  agree_front : (ps qs : List Place) → AgreeAt l k (ps ++ qs) → AgreeAt l k ps × AgreeAt l k qs
  agree_front [] qs h = (tt, h)
  agree_front (p ∷ ps) qs h = let more = agree_front ps qs h.1 in ((h.0, more.0), more.1)

  -- so the finds of each folder are the same
  pub same_finds : AgreeAt l k (target_places l) → discovered l ≡ discovered k
  same_finds h = fun_ext (every (λ d. discovered l d ≡ discovered k d) (each target_folders h))
    where
      each : (ds : List TargetFolder) → AgreeAt l k (flat_map (folder_places l) ds)
          → AllByRecursion (λ d. discovered l d ≡ discovered k d) ds
      each [] g = tt
      each (d ∷ ds) g =
          let parts = agree_front (folder_places l d) (flat_map (folder_places l) ds) g in
          (same_discovered d parts.0, each ds parts.1)

  -- THE FOLDER OF THE MANIFEST
  same_root : (b : Option StringOrBool) → AgreeUpTo (root_places (asks_root b))
      → (root_fault b l.root ≡ root_fault b k.root) × (build_of b l.root ≡ build_of b k.root)
  same_root None h = (ap (root_fault None) h.0, ap (build_of None) h.0)
  same_root (Some (a_flag true)) h = (ap (root_fault (Some (a_flag true))) h.0, ap (build_of (Some (a_flag true))) h.0)
  same_root (Some (a_flag false)) h = (unasked l.root ∙ sym (unasked k.root), refl)
  same_root (Some (a_text s)) h = (unasked l.root ∙ sym (unasked k.root), refl)

  -- THE TARGETS FILLED IN
  same_filled : (t : PackageTargets) (lib : Option Product) → l.source ≡ k.source → AgreeAt l k (target_places l)
      → build_of t.build l.root ≡ build_of t.build k.root → filled t lib l ≡ filled t lib k
  unfolding filled_by
  same_filled t lib e h build = ap (filled_by t lib l.source l.root) (same_finds h) ∙ rw (e, build) refl

  -- WHAT THE TARGETS BECOME
  module _ (t : PackageTargets) (e : l.source ≡ k.source) where
    abbrev IsSame : Type 0
    IsSame = (asked_targets t l ≡ asked_targets t k) × (completed_targets t l ≡ completed_targets t k)

    after_known : (lib : Option Product) → source_fault l.source ≡ None → library t l.source ≡ known lib
        → AgreeUpTo (target_places l ++ root_places (asks_root t.build)) → IsSame
    after_known lib none got h = (asked, completed)
      where
        front : AgreeUpTo (target_places l)
        front = front_agrees (target_places l) (root_places (asks_root t.build)) h

        asked : asked_targets t l ≡ asked_targets t k
        asked = rw (none, got, sym e, none, got) (ap (λ (ps : List Place). source ∷ ps)
            (targets_asked (root_places (asks_root t.build)) (root_asked (asks_root t.build)) h))

        memory : has_memory_fault (at l) (target_places l) ≡ has_memory_fault (at k) (target_places k)
        memory =
            sym (memory_seen (at l) (target_places l))
            ∙ memory_agrees (up_to_memory_fault (at l) (target_places l)) front
            ∙ ap (has_memory_fault (at k)) (targets_alone front)
            ∙ memory_seen (at k) (target_places k)

        calm_same : (b : Bool) → has_memory_fault (at l) (target_places l) ≡ b
            → (if b then refused OutOfMemory else after_root t lib l (root_fault t.build l.root)) ≡ (if b then refused
            OutOfMemory else after_root t lib k (root_fault t.build k.root))
        calm_same true lost = refl
        calm_same false calm =
            let all = all_asked (target_places l) (root_places (asks_root t.build)) calm h in
            let roots = same_root t.build all.1 in
            ap (after_root t lib l) roots.0 ∙ by_root (root_fault t.build k.root) (same_filled t lib e all.0 roots.1)
          where
            by_root : (r : Option ErrorKind) → filled t lib l ≡ filled t lib k → after_root t lib l r ≡ after_root t lib
                k r
            by_root None same = ap completed_to same
            by_root (Some r) same = refl

        completed : completed_targets t l ≡ completed_targets t k
        completed =
            with_library t l lib none got
            ∙ calm_same (has_memory_fault (at l) (target_places l)) refl
            ∙ ap (λ (b : Bool). if b then refused OutOfMemory else after_root t lib k (root_fault t.build k.root))
            memory
            ∙ sym (with_library t k lib (ap source_fault (sym e) ∙ none) (ap (library t) (sym e) ∙ got))

    same_targets : AgreeAt l k (asked_targets t l) → IsSame
    same_targets h = by_source (source_fault l.source) (library t l.source) refl refl
      where
        by_source : (s : Option ErrorKind) (c : Library) → source_fault l.source ≡ s → library t l.source ≡ c → IsSame
        by_source (Some r) c e1 e2 = (rw (e1, sym e, e1) refl, rw (e1, sym e, e1) refl)
        by_source None no_file e1 e2 = (rw (e1, e2, sym e, e1, e2) refl, rw (e1, e2, sym e, e1, e2) refl)
        by_source None (known lib) e1 e2 = after_known lib e1 e2 ((rw (e1, e2) at h).1)

pub targets_decide : (t : PackageTargets) (l k : ListingMap) → AgreeAt l k (asked_targets t l)
    → (asked_targets t l ≡ asked_targets t k) × (completed_targets t l ≡ completed_targets t k)
targets_decide t l k h = same_targets l k t h.0 h

pub asked_decides : AskedDecides
asked_decides m l k h = one m.«package» h
  where
    one : (o : Option Package) → AgreeAt l k (asked_by o m l) → (asked_by o m l ≡ asked_by o m k)
        × (completed_by o m l ≡ completed_by o m k)
    one None g = (refl, refl)
    one (Some p) g = let same = targets_decide (targets_of p m) l k g in (same.0, ap (completion_with p m) same.1)
