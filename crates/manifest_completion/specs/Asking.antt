-- What the functions that ask a filesystem say of what it answered.
use Rattle.manifest_schema.specs.Prelude.{list_any, zip, Text}
use Rattle.std.specs.Prelude.{◌≡◌, List, [], ◌∷◌, ◌++◌, Bool, ◌||◌}
use Rattle.std.specs.Bool.{MatchBool}
use Rattle.manifest_completion.specs.declared.ask.FolderAnswers.{FolderAnswers}
use Rattle.manifest_completion.specs.declared.ask.Answers.{Answers}
use Rattle.manifest_completion.specs.Listings.{Answer, TargetFolder, target_folders, by_folder, Place, source, folder_text, joined, names_of, is_memory_fault, FolderListing, ListingMap, at, IsAscending}
use Rattle.manifest_completion.specs.Completed.{Explains, up_to_memory_fault, target_places, root_places}
use Rattle.manifest_completion.specs.Answered.{answer_of, answers_of}

-- an answer that is allowed at a path, its names ascending
abbrev pub IsAllowedAnswer : (Text → Answer → Type 0) → Text → Answer → Type 0
IsAllowedAnswer allows path a = IsAscending (names_of a) × allows path a

-- the answers for the names in a folder, in order, up to the first that ran out of memory
abbrev pub AreAllowedAnswers : (Text → Answer → Type 0) → Text → List Text → List Answer → Type 0
AreAllowedAnswers allows d [] [] = Unit {0}
AreAllowedAnswers allows d [] (a ∷ given) = ⊥
AreAllowedAnswers allows d (n ∷ ns) [] = ⊥
AreAllowedAnswers allows d (n ∷ ns) (a ∷ given) =
    IsAllowedAnswer allows (joined d n) a
    × MatchBool (is_memory_fault a) (given ≡ []) (AreAllowedAnswers allows d ns given)

-- what was answered at a folder and at its entries
pub record FolderIsAnswered (allows : Text → Answer → Type 0) (d : Text) (a : FolderAnswers)
    : Type 0 where
  pub own : IsAllowedAnswer allows d (answer_of a.own)
  pub entries : AreAllowedAnswers allows d (names_of (answer_of a.own)) (answers_of a.entries)

-- the names in the folder ascend, and its entries were answered in turn, up to the first that ran out of memory
abbrev pub IsAnsweredInTurn : TargetFolder → FolderAnswers → Type 0
IsAnsweredInTurn d a = FolderIsAnswered (λ path answer. Unit {0}) (folder_text d) a

-- what was answered at a folder of targets and at its entries
abbrev pub folder_answers : Answers → TargetFolder → FolderAnswers
folder_answers a d = by_folder a.bins a.examples a.tests a.benches d

-- the map of what was answered
abbrev pub folder_listing : FolderAnswers → FolderListing
folder_listing a = record {
  own = answer_of a.own;
  entries = zip (names_of (answer_of a.own)) (answers_of a.entries);
}

abbrev pub listing_map : Answers → ListingMap
listing_map a = record {
  source = answer_of a.source;
  folders = λ d. folder_listing (folder_answers a d);
  root = answer_of a.root;
}

-- the places that are asked where completion goes on after `src`
abbrev pub all_places : Bool → ListingMap → List Place
all_places asks l = source ∷ up_to_memory_fault (at l) (target_places l ++ root_places asks)

-- what was answered at `src`, all target folders and their entries, and the manifest's folder where that was asked
pub record AllIsAnswered (allows : Text → Answer → Type 0) (asks : Bool) (a : Answers)
    : Type 0 where
  pub in_turn : (d : TargetFolder) → IsAnsweredInTurn d (folder_answers a d)
  pub explained : Explains allows (listing_map a) (all_places asks (listing_map a))

-- the folder's answer or one of its entries' ran out of memory
abbrev pub ran_out_of_memory : FolderAnswers → Bool
ran_out_of_memory a =
    is_memory_fault (answer_of a.own)
    || list_any (λ x. is_memory_fault (answer_of x)) a.entries.items

-- some answer ran out of memory
abbrev pub some_ran_out_of_memory : Answers → Bool
some_ran_out_of_memory a = list_any (λ d. ran_out_of_memory (folder_answers a d)) target_folders
