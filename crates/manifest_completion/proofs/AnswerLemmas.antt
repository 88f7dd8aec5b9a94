-- What was answered, as the map of listings has it.
use Rattle.manifest_schema.specs.Prelude.{AllByRecursion, list_any, zip, bytes_eq, bytes_eq-Decides, NotFound, Text}
use Rattle.std.proofs.Common.{◌≡◌, List, [], ◌∷◌, ◌++◌, Bool, true, false, refl, ap, sym, ◌∙◌, map, MatchBool, subst, ◌||◌, ◌&&◌, not, if◌then◌else◌}
use Rattle.std.specs.List.{IsDistinct}
use Rattle.std.proofs.lemmas.Bool.{and_from, or_from}
use Rattle.manifest_completion.specs.declared.ask.FolderAnswers.{FolderAnswers}
use Rattle.manifest_completion.specs.declared.ask.Answers.{Answers}
use Rattle.manifest_completion.specs.Listings.{Answer, fault, names_of, is_memory_fault, TargetFolder, target_folders, Place, source, folder, entry, root, joined, folder_text, path_text, entry_answer, FolderListing, ListingMap, at, IsAscending, NamesAscend}
use Rattle.manifest_completion.specs.Completed.{up_to_memory_fault, folder_places, has_memory_fault, root_places}
use Rattle.manifest_completion.specs.Answered.{answer_of, answers_of}
use Rattle.manifest_completion.specs.Asking.{IsAllowedAnswer, AreAllowedAnswers, FolderIsAnswered, IsAnsweredInTurn, folder_answers, folder_listing, listing_map, AllIsAnswered, ran_out_of_memory}
use Rattle.manifest_completion.proofs.AskLemmas.{none_ascend, ascending_differ, every}
use Rattle.manifest_completion.proofs.AskedLaws.{places_of, together}
use Rattle.manifest_completion.proofs.DecidesLaws.{goes_on, stops_or}

-- the answers, with NotFound past their end
abbrev pub padded : List Text → List Answer → List Answer
padded [] given = []
padded (n ∷ ns) [] = fault NotFound ∷ padded ns []
padded (n ∷ ns) (a ∷ given) = a ∷ padded ns given

skip : (n : Text) (a : Answer) (es : List (Text × Answer)) (ms : List Text) → AllByRecursion (λ m. bytes_eq n m ≡ false)
    ms → map (entry_answer ((n, a) ∷ es)) ms ≡ map (entry_answer es) ms
skip n a es [] h = refl
skip n a es (m ∷ ms) h = rw h.0 (ap (λ (xs : List Answer). entry_answer es m ∷ xs) (skip n a es ms h.1))

none_there : (ms : List Text) → map (entry_answer []) ms ≡ padded ms []
none_there [] = refl
none_there (m ∷ ms) = ap (λ (xs : List Answer). fault NotFound ∷ xs) (none_there ms)

lookups : (ns : List Text) (given : List Answer) → IsDistinct bytes_eq ns → map (entry_answer (zip ns given))
    ns ≡ padded ns given
unfolding IsDistinct
lookups [] given h = refl
lookups (n ∷ ns) [] h = none_there (n ∷ ns)
lookups (n ∷ ns) (a ∷ given) h =
    let here : entry_answer ((n, a) ∷ zip ns given) n ≡ a = rw ((bytes_eq-Decides n n).1 refl) refl in
    cc (here, skip n a (zip ns given) ns h.0, lookups ns given h.1)

or_cases : (b x y : Bool) → (b ≡ false → x ≡ y) → (b || x) ≡ (b || y)
or_cases true x y h = refl
or_cases false x y h = h refl

any_padded : (P : Text → Answer → Type 0) (d : Text) (ns : List Text) (given : List Answer) → AreAllowedAnswers P d ns
    given → list_any is_memory_fault (padded ns given) ≡ list_any is_memory_fault given
any_padded P d [] [] h = refl
any_padded P d [] (a ∷ given) h = absurd h
any_padded P d (n ∷ ns) [] h = absurd h
any_padded P d (n ∷ ns) (a ∷ given) h = or_cases (is_memory_fault a) _ _ (λ e. any_padded P d ns given (rw e at h.1))

pub any_map : {A B : Type 0} (p : B → Bool) (f : A → B) (xs : List A) → list_any p (map f xs) ≡ list_any (λ x. p (f x))
    xs
any_map p f [] = refl
any_map p f (x ∷ xs) = ap (λ b. p (f x) || b) (any_map p f xs)

-- the answers for the entries, where the map has this folder
pub entry_answers : (l : ListingMap) (d : TargetFolder) (a : FolderAnswers) → l.folders d ≡ folder_listing a
    → IsDistinct bytes_eq (names_of (answer_of a.own)) → map (λ n. at l (entry d n))
    (names_of (answer_of a.own)) ≡ padded (names_of (answer_of a.own)) (answers_of a.entries)
entry_answers l d a e h = rw e (lookups (names_of (answer_of a.own)) (answers_of a.entries) h)

-- whether the folder or an entry ran out of memory
pub folder_fault : (l : ListingMap) (d : TargetFolder) (a : FolderAnswers) → l.folders d ≡ folder_listing a
    → IsAnsweredInTurn d a → has_memory_fault (at l) (folder_places l d) ≡ ran_out_of_memory a
folder_fault l d a e h =
    let ns = names_of (answer_of a.own) in
    let own : (l.folders d).own ≡ answer_of a.own = ap (λ (f : FolderListing). f.own) e in
    rw own (ap (λ b. is_memory_fault (answer_of a.own) || b)
    (any_map (λ p. is_memory_fault (at l p)) (entry d) ns ∙ sym (any_map is_memory_fault (λ n. at l (entry d n)) ns)
    ∙ ap (list_any is_memory_fault) (entry_answers l d a e (ascending_differ ns h.own.0))
    ∙ any_padded (λ path answer. Unit {0}) (folder_text d) ns (answers_of a.entries) h.entries
    ∙ any_map is_memory_fault answer_of a.entries.items))

-- ALLOWED
module _ (allows : Text → Answer → Type 0) (l : ListingMap) where
  abbrev Holds : Place → Type 0
  Holds p = allows (path_text p) (at l p)

  pub allowed_append : (xs ys : List Place) → AllByRecursion Holds (up_to_memory_fault (at l) xs)
      → (has_memory_fault (at l) xs ≡ false → AllByRecursion Holds (up_to_memory_fault (at l) ys))
      → AllByRecursion Holds (up_to_memory_fault (at l) (xs ++ ys))
  allowed_append [] ys h k = k refl
  allowed_append (x ∷ xs) ys h k = (
    h.0,
    stops_or Holds (is_memory_fault (at l x)) (up_to_memory_fault (at l) (xs ++ ys))
        (λ e. allowed_append xs ys (goes_on Holds (is_memory_fault (at l x)) (up_to_memory_fault (at l) xs) h.1 e)
        (λ f. k (or_from (is_memory_fault (at l x)) (has_memory_fault (at l) xs) e f))),
  )

  -- the answers for the entries are allowed, up to the first that ran out of memory
  entries_held : (d : TargetFolder) (ns : List Text) (given : List Answer) → map (λ n. at l (entry d n)) ns ≡ padded ns
      given → AreAllowedAnswers allows (folder_text d) ns given → AllByRecursion Holds (up_to_memory_fault (at l)
      (map (entry d) ns))
  entries_held d [] given e h = tt
  entries_held d (n ∷ ns) [] e h = absurd h
  entries_held d (n ∷ ns) (a ∷ given) e h =
      let here : at l (entry d n) ≡ a = cc e in
      let there : map (λ m. at l (entry d m)) ns ≡ padded ns given = cc e in
      rw here (
        h.0.1,
        stops_or Holds (is_memory_fault a) (up_to_memory_fault (at l) (map (entry d) ns))
            (λ q. entries_held d ns given there (rw q at h.1)),
      )

  -- the same for the folder before them
  pub folder_held : (d : TargetFolder) (a : FolderAnswers) → l.folders d ≡ folder_listing a → FolderIsAnswered allows
      (folder_text d) a → AllByRecursion Holds (up_to_memory_fault (at l) (folder_places l d))
  folder_held d a e h =
      let own : (l.folders d).own ≡ answer_of a.own = ap (λ (f : FolderListing). f.own) e in
      rw own (
        h.own.1,
        stops_or Holds (is_memory_fault (answer_of a.own)) (up_to_memory_fault (at l)
            (map (entry d) (names_of (answer_of a.own))))
            (λ q. entries_held d (names_of (answer_of a.own)) (answers_of a.entries)
            (entry_answers l d a e (ascending_differ (names_of (answer_of a.own)) h.own.0)) h.entries),
      )

  pub root_held : (asks : Bool) → (asks ≡ true → allows (path_text root) (at l root)) → AllByRecursion Holds
      (up_to_memory_fault (at l) (root_places asks))
  root_held true h = (h refl, stops_or Holds (is_memory_fault (at l root)) [] (λ q. tt))
  root_held false h = tt

-- ASCENDING
abbrev Ascends : Answer → Type 0
Ascends a = IsAscending (names_of a)

match_map : (b : Bool) (P Q Q' : Type 0) → (Q → Q') → MatchBool b P Q → MatchBool b P Q'
match_map true P Q Q' f m = m
match_map false P Q Q' f m = f m

entries_ascend : (P : Text → Answer → Type 0) (d : Text) (ns : List Text) (given : List Answer) → AreAllowedAnswers P d
    ns given → AllByRecursion Ascends given
entries_ascend P d [] [] h = tt
entries_ascend P d [] (a ∷ given) h = absurd h
entries_ascend P d (n ∷ ns) [] h = absurd h
entries_ascend P d (n ∷ ns) (a ∷ given) h = (h.0.0, one (is_memory_fault a) given h.1 (entries_ascend P d ns given))
  where
    one : (b : Bool) (bs : List Answer) → MatchBool b (bs ≡ []) (AreAllowedAnswers P d ns bs)
        → (AreAllowedAnswers P d ns bs → AllByRecursion Ascends bs) → AllByRecursion Ascends bs
    one true bs e k = rw e tt
    one false bs e k = k e

looked_up : (ns : List Text) (given : List Answer) (n : Text) → AllByRecursion Ascends given
    → Ascends (entry_answer (zip ns given) n)
looked_up [] given n h = none_ascend
looked_up (m ∷ ns) [] n h = none_ascend
looked_up (m ∷ ns) (a ∷ given) n h = one (bytes_eq m n) h.0 (looked_up ns given n h.1)
  where
    one : (b : Bool) → Ascends a → Ascends (entry_answer (zip ns given) n)
        → Ascends (if b then a else entry_answer (zip ns given) n)
    one true x y = x
    one false x y = y

folder_ascends : (a : FolderAnswers) (P : Text → Answer → Type 0) (d : Text) → FolderIsAnswered P d a → (n : Text)
    → Ascends (entry_answer (folder_listing a).entries n)
folder_ascends a P d h n = looked_up (names_of (answer_of a.own)) (answers_of a.entries) n
    (entries_ascend P d (names_of (answer_of a.own)) (answers_of a.entries) h.entries)

abbrev anything : Text → Answer → Type 0
anything path a = Unit {0}

map_ascends : (a : Answers) → ((d : TargetFolder) → IsAnsweredInTurn d (folder_answers a d)) → Ascends (answer_of a.root)
    → Ascends (answer_of a.source) → NamesAscend (listing_map a)
map_ascends a h r s source = s
map_ascends a h r s (folder d) = (h d).own.0
map_ascends a h r s (entry d n) = folder_ascends (folder_answers a d) anything (folder_text d) (h d) n
map_ascends a h r s root = r

-- WEAKER
module _ (P Q : Text → Answer → Type 0) (weaker : (path : Text) (a : Answer) → P path a → Q path a) where
  entries_weaker : (d : Text) (ns : List Text) (given : List Answer) → AreAllowedAnswers P d ns given
      → AreAllowedAnswers Q d ns given
  entries_weaker d [] [] h = tt
  entries_weaker d [] (a ∷ given) h = absurd h
  entries_weaker d (n ∷ ns) [] h = absurd h
  entries_weaker d (n ∷ ns) (a ∷ given) h = (
    (h.0.0, weaker (joined d n) a h.0.1),
    match_map (is_memory_fault a)
        (given ≡ []) (AreAllowedAnswers P d ns given) (AreAllowedAnswers Q d ns given) (entries_weaker d ns given) h.1,
  )

  pub folder_weaker : (d : Text) (a : FolderAnswers) → FolderIsAnswered P d a → FolderIsAnswered Q d a
  folder_weaker d a h = record {
    own = (h.own.0, weaker d (answer_of a.own) h.own.1);
    entries =
        entries_weaker d (names_of (answer_of a.own)) (answers_of a.entries) h.entries;
  }

answered_in_turn : (P : Text → Answer → Type 0) (d : TargetFolder) (a : FolderAnswers)
    → FolderIsAnswered P (folder_text d) a → IsAnsweredInTurn d a
answered_in_turn P d a h = folder_weaker P anything (λ path answer p. tt) (folder_text d) a h

-- of a folder that is asked only where completion goes on
abbrev pub IsAllowedUnless : Bool → (Text → Answer → Type 0) → TargetFolder → FolderAnswers → Type 0
IsAllowedUnless stopped allows d a = FolderIsAnswered (λ path answer. stopped ≡ false → allows path answer)
    (folder_text d) a

answered_on : (stopped : Bool) (allows : Text → Answer → Type 0) (d : TargetFolder) (a : FolderAnswers)
    → IsAllowedUnless stopped allows d a → stopped ≡ false → FolderIsAnswered allows (folder_text d) a
answered_on stopped allows d a h e = folder_weaker (λ path answer. stopped ≡ false → allows path answer) allows
    (λ path answer p. p e) (folder_text d) a h

-- of a folder that is not asked
pub none_answered : (stopped : Bool) (allows : Text → Answer → Type 0) (d : Text) (a : FolderAnswers) → stopped ≡ true
    → answer_of a.own ≡ fault NotFound → a.entries.items ≡ [] → FolderIsAnswered (λ path answer. stopped ≡ false
    → allows path answer) d a
none_answered stopped allows d a e own none = record {
  own = rw own (none_ascend, λ f. cc (e, f));
  entries =
      rw (own, none) tt;
}

-- ALL that was answered
module _ (allows : Text → Answer → Type 0) (asks : Bool) (a : Answers) where
  -- these folders in turn and then that of the manifest, each where no answer before it ran out of memory
  abbrev pub AskedInTurn : Bool → List TargetFolder → Type 0
  AskedInTurn stopped [] = IsAllowedAnswer (λ path answer. (asks && not stopped) ≡ true → allows path answer)
      (path_text root) (answer_of a.root)
  AskedInTurn stopped (d ∷ ds) =
      IsAllowedUnless stopped allows d (folder_answers a d)
      × ((after : Bool) × (after ≡ (stopped || ran_out_of_memory (folder_answers a d))) × AskedInTurn after ds)

  each_in_turn : (stopped : Bool) (ds : List TargetFolder) → AskedInTurn stopped ds
      → AllByRecursion (λ d. IsAnsweredInTurn d (folder_answers a d)) ds
  each_in_turn stopped [] h = tt
  each_in_turn stopped (d ∷ ds) h = (answered_in_turn _ d (folder_answers a d) h.0, each_in_turn h.1.0 ds h.1.2)

  root_ascends : (stopped : Bool) (ds : List TargetFolder) → AskedInTurn stopped ds → Ascends (answer_of a.root)
  root_ascends stopped [] h = h.0
  root_ascends stopped (d ∷ ds) h = root_ascends h.1.0 ds h.1.2

  module _ (in_turn : (d : TargetFolder) → IsAnsweredInTurn d (folder_answers a d)) where
    all_held : (stopped : Bool) (ds : List TargetFolder) → AskedInTurn stopped ds → stopped ≡ false
        → AllByRecursion (Holds allows (listing_map a)) (up_to_memory_fault (at (listing_map a))
        (places_of (listing_map a) (root_places asks) ds))
    all_held stopped [] h e = root_held allows (listing_map a) asks (λ y. h.1 (and_from asks _ y (ap not e)))
    all_held stopped (d ∷ ds) h e =
        let l = listing_map a in let f = folder_answers a d in
        allowed_append allows l (folder_places l d) (places_of l (root_places asks) ds)
        (folder_held allows l d f refl (answered_on stopped allows d f h.0 e))
        (λ q. all_held h.1.0 ds h.1.2 (h.1.1 ∙ or_from stopped (ran_out_of_memory f) e
        (sym (folder_fault l d f refl (in_turn d)) ∙ q)))

  pub all_answered : IsAllowedAnswer allows (path_text source) (answer_of a.source) → AskedInTurn false target_folders
      → AllIsAnswered allows asks a
  all_answered s h =
      let l = listing_map a in
      let in_turn = every (λ d. IsAnsweredInTurn d (folder_answers a d)) (each_in_turn false target_folders h) in
      record {
        in_turn = in_turn;
        explained = record {
          ascending = map_ascends a in_turn (root_ascends false target_folders h) s.0;
          allowed = (
            s.1,
            subst (λ (ps : List Place). AllByRecursion (Holds allows l) (up_to_memory_fault (at l) ps))
                (together l (root_places asks) target_folders) (all_held in_turn false target_folders h refl),
          );
        };
      }
