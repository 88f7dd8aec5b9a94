-- Where one answer is stored for each path text, the map of what is stored decides what completion gives.
use Rattle.manifest_schema.specs.Prelude.{or-false, error_kind, AllByRecursion, bytes_eq, bytes_eq-Decides, list_any-append, ErrorKind, OutOfMemory, Text, StringOrBool, a_text, a_flag, Product, Package, Manifest}
use Rattle.std.proofs.Common.{◌≡◌, ◌⊎◌, inl, inr, ⊎_elim, List, [], ◌∷◌, ◌++◌, Bool, true, false, refl, ap, sym, ◌∙◌, map, Option, Some, None, if◌then◌else◌, ◌||◌, subst, Ok, Err}
use Rattle.manifest_fault.specs.declared.error.Error.TheVariants.{Io, Other, Memory}
use Rattle.manifest_completion.specs.Listings.{Answer, names, fault, names_of, is_memory_kind, is_memory_fault, TargetFolder, target_folders, Place, source, folder, entry, root, path_text, entry_answer, ListingMap, at}
use Rattle.manifest_completion.specs.Completed.{PackageTargets, folder_places, target_places, root_places, up_to_memory_fault, has_memory_fault, asks_root, root_fault, after_root, Library, no_file, known, library, source_fault, Completion, completed_to, refused, no_library, completed_targets, asked_targets, completed, asked, completed_by, asked_by, completion_with, targets_of, AllAllowed}
use Rattle.manifest_completion.specs.Stored.{AnswersAsStored, stored_map}
use Rattle.manifest_completion.specs.Outcome.{completed_content}
use Rattle.manifest_completion.specs.Laws.{AgreeAt, StoredDecidesTargets}
use Rattle.manifest_completion.proofs.AskedLaws.{places_of, together}
use Rattle.manifest_completion.proofs.DecidesLaws.{goes_on, with_library, targets_decide}

-- OUT OF MEMORY
memory_kind : (k : ErrorKind) → is_memory_kind k ≡ true → k ≡ OutOfMemory
memory_kind OutOfMemory e = refl
memory_kind _ e = cc

memory_fault : (a : Answer) → is_memory_fault a ≡ true → a ≡ fault OutOfMemory
memory_fault (names ns) e = cc
memory_fault (fault k) e = ap fault (memory_kind k e)

-- memory ran out for the folder of the manifest, which was asked
root_lost : (b : Option StringOrBool) (l : ListingMap) → has_memory_fault (at l) (root_places (asks_root b)) ≡ true
    → root_fault b l.root ≡ Some OutOfMemory
root_lost b l h = asked_root b h
  where
    lost : (is_memory_fault l.root || false) ≡ true → l.root ≡ fault OutOfMemory
    lost e = memory_fault l.root (sym (or-false (is_memory_fault l.root)) ∙ e)

    asked_root : (o : Option StringOrBool) → has_memory_fault (at l) (root_places (asks_root o)) ≡ true
        → root_fault o l.root ≡ Some OutOfMemory
    asked_root None e = rw (lost e) refl
    asked_root (Some (a_text s)) e = cc
    asked_root (Some (a_flag true)) e = rw (lost e) refl
    asked_root (Some (a_flag false)) e = cc

-- LOOK-UPS
module _ (f : Text → Answer) where
  abbrev FoundIn : List (Text × Answer) → List Text → Type 0
  FoundIn es ns = AllByRecursion (λ n. entry_answer es n ≡ f n) ns

  past : (x : Text) (es : List (Text × Answer)) (ns : List Text) → FoundIn es ns → FoundIn ((x, f x) ∷ es) ns
  past x es [] h = tt
  past x es (n ∷ ns) h = (one (bytes_eq x n) refl, past x es ns h.1)
    where
      one : (b : Bool) → bytes_eq x n ≡ b → (if bytes_eq x n then f x else entry_answer es n) ≡ f n
      one true e = rw e (ap f ((bytes_eq-Decides x n).0 e))
      one false e = rw e h.0

  found_all : (ns : List Text) → FoundIn (map (λ n. (n, f n)) ns) ns
  found_all [] = tt
  found_all (n ∷ ns) =
      let here : entry_answer ((n, f n) ∷ map (λ m. (m, f m)) ns) n ≡ f n = rw ((bytes_eq-Decides n n).1 refl) refl in
      (here, past n (map (λ m. (m, f m)) ns) ns (found_all ns))

module _ (stored : Text → Answer) where
  -- the map of what is stored has at this place the answer for its path text
  abbrev IsListed : Place → Type 0
  IsListed p = at (stored_map stored) p ≡ stored (path_text p)

  listed_entries : (d : TargetFolder) → AllByRecursion IsListed
      (map (entry d) (names_of (stored (path_text (folder d)))))
  listed_entries d = over (names_of (stored (path_text (folder d))))
      (found_all (λ n. stored (path_text (entry d n))) (names_of (stored (path_text (folder d)))))
    where
      over : (ns : List Text) → AllByRecursion (λ n. IsListed (entry d n)) ns → AllByRecursion IsListed
          (map (entry d) ns)
      over [] h = tt
      over (n ∷ ns) h = (h.0, over ns h.1)

  module _ (l : ListingMap) where
    abbrev pub IsAllowed : Place → Type 0
    IsAllowed p = AnswersAsStored stored (path_text p) (at l p)

    -- the answers of these places, up to the first for which memory ran out, are those that are stored; or there is one
    abbrev pub Settles : List Place → Type 0
    Settles ps = AgreeAt l (stored_map stored) (up_to_memory_fault (at l) ps) ⊎ (has_memory_fault (at l) ps ≡ true)

    settle : (p : Place) (qs : List Place) → at l p ≡ at (stored_map stored) p → (is_memory_fault (at l p) ≡ false
        → Settles qs) → Settles (p ∷ qs)
    settle p qs same rest = one (is_memory_fault (at l p)) rest
      where
        one : (b : Bool) → (b ≡ false → Settles qs) → AgreeAt l (stored_map stored)
            (p ∷ (if b then [] else up_to_memory_fault (at l) qs)) ⊎ ((b || has_memory_fault (at l) qs) ≡ true)
        one true k = inr refl
        one false k = ⊎_elim (λ agree. inl (same, agree)) (λ lost. inr lost) (k refl)

    walk : (ps xs : List Place) → AllByRecursion IsListed ps → (AllByRecursion IsAllowed (up_to_memory_fault (at l) xs)
        → Settles xs)
        → AllByRecursion IsAllowed (up_to_memory_fault (at l) (ps ++ xs)) → Settles (ps ++ xs)
    walk [] xs listed rest h = rest h
    walk (p ∷ ps) xs listed rest h =
        ⊎_elim
        (λ same. settle p (ps ++ xs) (same ∙ sym listed.0) (λ e. walk ps xs listed.1 rest
        (goes_on IsAllowed (is_memory_fault (at l p)) (up_to_memory_fault (at l) (ps ++ xs)) h.1 e)))
        (λ lost. inr (rw lost refl))
        h.0

    folder_walk : (d : TargetFolder) (xs : List Place) → (AllByRecursion IsAllowed (up_to_memory_fault (at l) xs)
        → Settles xs)
        → AllByRecursion IsAllowed (up_to_memory_fault (at l) (folder_places l d ++ xs)) → Settles (folder_places l d
        ++ xs)
    folder_walk d xs rest h =
        ⊎_elim
        (λ same.
        let entries : AllByRecursion IsListed (map (entry d) (names_of (at l (folder d)))) =
        rw same (listed_entries d) in
        walk (folder_places l d) xs (refl, entries) rest h)
        (λ lost. inr (rw lost refl))
        h.0

    root_walk : (asks : Bool) → AllByRecursion IsAllowed (up_to_memory_fault (at l) (root_places asks))
        → Settles (root_places asks)
    root_walk true h = ⊎_elim (λ same. settle root [] same (λ e. inl tt)) (λ lost. inr (rw lost refl)) h.0
    root_walk false h = inl tt

    pub targets_walk : (asks : Bool) → AllByRecursion IsAllowed (up_to_memory_fault (at l) (target_places l
        ++ root_places asks)) → Settles (target_places l ++ root_places asks)
    targets_walk asks h =
        let same = together l (root_places asks) target_folders in
        subst Settles same (each target_folders (subst (λ (ps : List Place). AllByRecursion IsAllowed
        (up_to_memory_fault (at l) ps)) (sym same) h))
      where
        each : (ds : List TargetFolder) → AllByRecursion IsAllowed (up_to_memory_fault (at l)
            (places_of l (root_places asks) ds)) → Settles (places_of l (root_places asks) ds)
        each [] g = root_walk asks g
        each (d ∷ ds) g = folder_walk d (places_of l (root_places asks) ds) (each ds) g

    -- WHAT THE TARGETS BECOME
    module _ (t : PackageTargets) where
      abbrev IsSettled : Type 0
      IsSettled = (completed_targets t l ≡ completed_targets t (stored_map stored))
          ⊎ (completed_targets t l ≡ refused OutOfMemory)

      agreed : AgreeAt l (stored_map stored) (asked_targets t l) → IsSettled
      agreed h = inl (targets_decide t l (stored_map stored) h).1

      lost_memory : (lib : Option Product) → source_fault l.source ≡ None → library t l.source ≡ known lib
          → has_memory_fault (at l) (target_places l ++ root_places (asks_root t.build)) ≡ true
          → completed_targets t l ≡ refused OutOfMemory
      lost_memory lib none got h =
          with_library t l lib none got
          ∙ one (has_memory_fault (at l) (target_places l)) refl (sym (list_any-append (λ p. is_memory_fault (at l p))
          (target_places l) (root_places (asks_root t.build))) ∙ h)
        where
          one : (b : Bool) → has_memory_fault (at l) (target_places l) ≡ b
              → (has_memory_fault (at l) (target_places l) || has_memory_fault (at l) (root_places (asks_root t.build)))
              ≡ true
              → (if b then refused OutOfMemory else after_root t lib l (root_fault t.build l.root)) ≡ refused
              OutOfMemory
          one true e f = refl
          one false e f = ap (after_root t lib l) (root_lost t.build l (rw e at f))

      pub targets_settled : AllAllowed (AnswersAsStored stored) l (asked_targets t l) → IsSettled
      targets_settled h = ⊎_elim (λ same. by_source same (source_fault l.source) (library t l.source) refl refl)
          (λ lost. inr (rw lost refl)) h.0
        where
          by_source : l.source ≡ stored (path_text source) → (s : Option ErrorKind) (c : Library)
              → source_fault l.source ≡ s → library t l.source ≡ c → IsSettled
          by_source same (Some r) c e1 e2 = agreed (rw e1 (same, tt))
          by_source same None no_file e1 e2 = agreed (rw (e1, e2) (same, tt))
          by_source same None (known lib) e1 e2 =
              ⊎_elim
              (λ agree. agreed (rw (e1, e2) (same, agree)))
              (λ lost. inr (lost_memory lib e1 e2 lost))
              (targets_walk (asks_root t.build) (rw (e1, e2) at h).1)

    -- WHAT A MANIFEST BECOMES
    pub manifest_settled : (m : Manifest) → AllAllowed (AnswersAsStored stored) l (asked m l)
        → (completed m l ≡ completed m (stored_map stored)) ⊎ (completed m l ≡ refused OutOfMemory)
    manifest_settled m h = one m.«package» h
      where
        one : (o : Option Package) → AllAllowed (AnswersAsStored stored) l (asked_by o m l)
            → (completed_by o m l ≡ completed_by o m (stored_map stored)) ⊎ (completed_by o m l ≡ refused OutOfMemory)
        one None g = inl refl
        one (Some p) g = ⊎_elim (λ same. inl (ap (completion_with p m) same))
            (λ lost. inr (ap (completion_with p m) lost)) (targets_settled (targets_of p m) g)

-- what came of a map that explains the answers, or memory ran out for a listing
pub by_stored : {A : Type 0} (c d e : Completion A) → (c ≡ d) ⊎ (c ≡ refused OutOfMemory) → c ≡ e → (d ≡ e)
    ⊎ (e ≡ refused OutOfMemory)
by_stored c d e h f = ⊎_elim (λ same. inl (sym same ∙ f)) (λ lost. inr (sym f ∙ lost)) h

pub stored_decides : StoredDecidesTargets
stored_decides stored t (Ok c) h =
    ⊎_elim (λ same. same) (λ lost. cc)
    (by_stored (completed_targets t h.0) (completed_targets t (stored_map stored))
    (completed_to (completed_content t c)) (targets_settled stored h.0 t h.1.allowed) h.2)
stored_decides stored t (Err (Io e)) h =
    ⊎_elim (λ same. inl same) (λ lost. inr cc)
    (by_stored (completed_targets t h.0) (completed_targets t (stored_map stored)) (refused (error_kind e))
    (targets_settled stored h.0 t h.1.allowed) h.2)
stored_decides stored t (Err (Other s)) h =
    ⊎_elim (λ same. (same, h.1)) (λ lost. cc)
    (by_stored (completed_targets t h.0.0) (completed_targets t (stored_map stored)) no_library
    (targets_settled stored h.0.0 t h.0.1.allowed) h.0.2)
stored_decides stored t (Err (Memory e)) h = tt
stored_decides stored t (Err _) h = absurd h
