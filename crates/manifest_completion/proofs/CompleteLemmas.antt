-- What the steps of a completion give, by the definitions.
use Rattle.manifest_schema.specs.Prelude.{AllByRecursion, fun_ext, error_kind, list_any, flat_map, or_parts, list_any-append, ErrorKind, NotFound, OutOfMemory, Text, Product, Manifest}
use Rattle.std.proofs.Common.{◌≡◌, List, [], ◌∷◌, ◌++◌, Bool, true, false, refl, ap, ap₂, sym, ◌∙◌, map, subst, ◌||◌, Option, Some, None, if◌then◌else◌, Result, Ok, Err}
use Rattle.std.specs.Result.{IsErrAnd}
use Rattle.manifest_fault.specs.declared.error.Error.{Error}
use Rattle.manifest_fault.specs.declared.error.Error.TheVariants.{Io, Other, Memory}
use Rattle.manifest_completion.specs.declared.completion.CompletedTargets.{CompletedTargets}
use Rattle.manifest_completion.specs.declared.ask.FolderAnswers.{FolderAnswers}
use Rattle.manifest_completion.specs.declared.ask.Answers.{Answers}
use Rattle.manifest_completion.specs.Listings.{Answer, fault, names_of, is_memory_fault, TargetFolder, target_folders, source, folder, entry, root, folder_text, path_text, FolderListing, ListingMap, at, IsAscending, NamesAscend}
use Rattle.manifest_completion.specs.Finds.{Discovered, discovered, discovered_in_entry}
use Rattle.manifest_completion.specs.Completed.{PackageTargets, Explains, folder_places, target_places, has_memory_fault, completed_to, refused, no_library, filled_by, library, no_file, known, source_fault, root_fault, after_root, completed_targets, asked_targets, asks_root, stops_at_source, completed, asked}
use Rattle.manifest_completion.specs.Answered.{answer_of, answers_of}
use Rattle.manifest_completion.specs.Asking.{IsAllowedAnswer, AreAllowedAnswers, IsAnsweredInTurn, folder_answers, folder_listing, listing_map, AllIsAnswered, ran_out_of_memory, some_ran_out_of_memory}
use Rattle.manifest_completion.specs.Outcome.{TargetsComeTo, TargetsRefused, TargetsCompleted}
use Rattle.manifest_completion.specs.Steps.{IsFault, RefusesLibrary, paired_discovered, folder_paired, paired, fault_of_answers, CompletesByAnswers}
use Rattle.manifest_completion.proofs.DecidesLaws.{with_library}
use Rattle.manifest_completion.proofs.AskLemmas.{none_ascend, ascending_differ, every}
use Rattle.manifest_completion.proofs.AnswerLemmas.{folder_fault, entry_answers, padded, any_map}

-- FINDS: those that are computed are those of the map
paired_is : (d : Text) (f : Text → Answer) (ns : List Text) (given : List Answer) → map f ns ≡ padded ns given
    → AreAllowedAnswers (λ path answer. Unit {0}) d ns given → list_any is_memory_fault given ≡ false
    → paired_discovered d ns given ≡ flat_map (λ n. discovered_in_entry d n (f n)) ns
paired_is d f [] given e h q = refl
paired_is d f (n ∷ ns) [] e h q = absurd h
paired_is d f (n ∷ ns) (a ∷ given) e h q =
    let here : f n ≡ a = cc e in
    let there : map f ns ≡ padded ns given = cc e in
    let kept : is_memory_fault a ≡ false = (or_parts (is_memory_fault a) (list_any is_memory_fault given) q).0 in
    rw here (ap (λ (xs : List Discovered). discovered_in_entry d n a ++ xs)
    (paired_is d f ns given there (rw kept at h.1) (or_parts (is_memory_fault a) (list_any is_memory_fault given) q).1))

pub folder_paired_is : (l : ListingMap) (d : TargetFolder) (a : FolderAnswers) → l.folders d ≡ folder_listing a
    → IsAnsweredInTurn d a → ran_out_of_memory a ≡ false → folder_paired (folder_text d) a ≡ discovered l d
folder_paired_is l d a e h q =
    let own : (l.folders d).own ≡ answer_of a.own = ap (λ (f : FolderListing). f.own) e in
    let kept : list_any is_memory_fault (answers_of a.entries) ≡ false = any_map is_memory_fault answer_of
    a.entries.items ∙ (or_parts (is_memory_fault (answer_of a.own)) _ q).1 in
    rw own (paired_is (folder_text d) (λ n. at l (entry d n)) (names_of (answer_of a.own)) (answers_of a.entries)
    (entry_answers l d a e (ascending_differ (names_of (answer_of a.own)) h.own.0)) h.entries kept)

-- THE MAP of a completion that asks `src` alone
abbrev pub only_source : Answer → ListingMap
only_source src = record {
  source = src;
  folders = λ d. record { own = fault NotFound; entries = [] };
  root = fault NotFound;
}

pub only_ascends : (src : Answer) → IsAscending (names_of src) → NamesAscend (only_source src)
only_ascends src h source = h
only_ascends src h (folder d) = none_ascend
only_ascends src h (entry d n) = none_ascend
only_ascends src h root = none_ascend

module _ (allows : Text → Answer → Type 0) (t : PackageTargets) (src : Answer) (ok : IsAllowedAnswer allows
    (path_text source) src) where
  explains_stop : stops_at_source t src ≡ true → Explains allows (only_source src) (asked_targets t (only_source src))
  explains_stop e = record { ascending = only_ascends src ok.0; allowed = rw e (ok.1, tt) }

  -- `src` is a fault
  source_refused : (k : ErrorKind) → source_fault src ≡ Some k → TargetsComeTo allows t (refused k)
  source_refused k e = (only_source src, explains_stop (rw e refl), rw e refl)

  pub source_error : (e : Error) → IsFault (source_fault src) e → TargetsRefused allows t e
  source_error (Io e) h = source_refused (error_kind e) h
  source_error _ h = absurd h

  -- there is no library
  library_refused : source_fault src ≡ None → library t src ≡ no_file → TargetsComeTo allows t no_library
  library_refused e f = (only_source src, explains_stop (rw (e, f) refl), rw (e, f) refl)

  pub library_error : source_fault src ≡ None → (e : Error) → RefusesLibrary (library t src) e → TargetsRefused allows t
      e
  library_error none (Other s) h = (library_refused none h.0, h.1)
  library_error none (Memory f) h = tt
  library_error none _ h = absurd h

-- where all was answered, the map has a folder or an entry that ran out of memory exactly where an answer did
module _ (a : Answers) (in_turn : (d : TargetFolder) → IsAnsweredInTurn d (folder_answers a d)) where
  faults : (ds : List TargetFolder) → has_memory_fault (at (listing_map a)) (flat_map (folder_places (listing_map a)) ds)
      ≡ list_any (λ d. ran_out_of_memory (folder_answers a d)) ds
  faults [] = refl
  faults (d ∷ ds) =
      let l = listing_map a in
      list_any-append (λ p. is_memory_fault (at l p)) (folder_places l d) (flat_map (folder_places l) ds)
      ∙ ap₂ (λ x y. x || y) (folder_fault l d (folder_answers a d) refl (in_turn d)) (faults ds)

  pub any_fault : has_memory_fault (at (listing_map a)) (target_places (listing_map a)) ≡ some_ran_out_of_memory a
  any_fault = faults target_folders

  -- and where none did, the finds that are computed are those of the map
  pub paired_finds : some_ran_out_of_memory a ≡ false → discovered (listing_map a) ≡ paired a
  paired_finds e = fun_ext (every (λ d. discovered (listing_map a) d ≡ paired a d) (each target_folders e))
    where
      each : (ds : List TargetFolder) → list_any (λ d. ran_out_of_memory (folder_answers a d)) ds ≡ false
          → AllByRecursion (λ d. discovered (listing_map a) d ≡ paired a d) ds
      each [] f = tt
      each (d ∷ ds) f =
          let calm = or_parts (ran_out_of_memory (folder_answers a d)) _ f in
          (sym (folder_paired_is (listing_map a) d (folder_answers a d) refl (in_turn d) calm.0), each ds calm.1)

-- all was answered
module _ (allows : Text → Answer → Type 0) (t : PackageTargets) (a : Answers) (given : AllIsAnswered allows
    (asks_root t.build) a) (none : source_fault (answer_of a.source) ≡ None) (lib : Option Product)
    (got : library t (answer_of a.source) ≡ known lib) where
  explains_all : Explains allows (listing_map a) (asked_targets t (listing_map a))
  explains_all = rw (none, got) given.explained

  -- what is answered decides what the targets become
  answered_outcome : completed_targets t (listing_map a) ≡ after_root t lib (listing_map a) (fault_of_answers t a)
  answered_outcome =
      with_library t (listing_map a) lib none got
      ∙ ap (λ (b : Bool). if b then refused OutOfMemory else after_root t lib (listing_map a)
      (root_fault t.build (answer_of a.root))) (any_fault a given.in_turn)
      ∙ one (some_ran_out_of_memory a)
    where
      one : (b : Bool) → (if b then refused OutOfMemory else after_root t lib (listing_map a)
          (root_fault t.build (answer_of a.root)))
          ≡ after_root t lib (listing_map a) (if b then Some OutOfMemory else root_fault t.build (answer_of a.root))
      one true = refl
      one false = refl

  calm : fault_of_answers t a ≡ None → some_ran_out_of_memory a ≡ false
  calm e = one (some_ran_out_of_memory a) (root_fault t.build (answer_of a.root)) e
    where
      one : (b : Bool) (k : Option ErrorKind) → (if b then Some OutOfMemory else k) ≡ None → b ≡ false
      one true k f = cc
      one false k f = refl

  pub by_answers : (r : Result CompletedTargets Error) → CompletesByAnswers t lib a r → TargetsCompleted allows t r
  by_answers (Ok c) h = (
    listing_map a,
    explains_all,
    answered_outcome ∙ ap (after_root t lib (listing_map a)) h.0
        ∙ ap (λ (f : TargetFolder → List Discovered). completed_to (filled_by t lib (answer_of a.source) (answer_of a.root) f))
        (paired_finds a given.in_turn (calm h.0)) ∙ ap completed_to (sym h.1),
  )
  by_answers (Err (Io e)) h = (listing_map a, explains_all, answered_outcome ∙ ap (after_root t lib (listing_map a)) h)
  by_answers (Err (Memory e)) h = tt
  by_answers (Err _) h = absurd h

-- a refusal with this error
pub refused_with : (allows : Text → Answer → Type 0) (t : PackageTargets) (r : Result CompletedTargets Error)
    (e : Error) → IsErrAnd r (λ x. x ≡ e) → TargetsRefused allows t e → TargetsCompleted allows t r
refused_with allows t (Ok c) e h g = absurd h
refused_with allows t (Err x) e h g = subst (TargetsRefused allows t) (sym h) g

-- WITHOUT A PACKAGE nothing is asked, and any map explains it
pub without_package : (allows : Text → Answer → Type 0) (m : Manifest) → m.«package» ≡ None → (l : ListingMap)
    × Explains allows l (asked m l) × (completed m l ≡ completed_to m)
without_package allows m e = (
  only_source (fault NotFound),
  record {
    ascending = only_ascends (fault NotFound)
        none_ascend;
    allowed = rw e tt;
  },
  rw e refl,
)
