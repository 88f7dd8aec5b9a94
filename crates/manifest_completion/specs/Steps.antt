-- What the contracts of single steps of a completion cite; it is not needed to read what completion makes.
use Rattle.manifest_schema.specs.Prelude.{Bor, Global, error_kind, ErrorKind, OutOfMemory, Text, Path, Product}
use Rattle.std.specs.Prelude.{◌≡◌, if◌then◌else◌, List, [], ◌∷◌, ◌++◌, map, option_map, Option, Some, None, string_bytes, Result, Ok, Err, Vec, true}
use Rattle.manifest_parts.specs.Parts.{edition_content}
use Rattle.manifest_fault.specs.declared.error.Error.{Error}
use Rattle.manifest_fault.specs.declared.error.Error.TheVariants.{Io, Other, Memory}
use Rattle.manifest_fault.specs.declared.fault.KeyPath.{KeyPath}
use Rattle.manifest_completion.specs.declared.completion.CompletedTargets.{CompletedTargets}
use Rattle.manifest_completion.specs.declared.ask.Answers.{Answers}
use Rattle.manifest_completion.specs.declared.discovered.FoundTarget.{FoundTarget}
use Rattle.manifest_completion.specs.declared.targets.TargetDefaults.{TargetDefaults}
use Rattle.manifest_completion.specs.declared.ask.FolderAnswers.{FolderAnswers}
use Rattle.manifest_completion.specs.Listings.{Answer, TargetFolder, folder_text, names_of}
use Rattle.manifest_completion.specs.Finds.{Discovered, discovered_in_entry}
use Rattle.manifest_completion.specs.Targets.{Defaults}
use Rattle.manifest_completion.specs.Completed.{PackageTargets, filled_by, Library, no_file, root_fault}
use Rattle.manifest_completion.specs.Answered.{answer_of, answers_of}
use Rattle.manifest_completion.specs.Asking.{folder_answers, some_ran_out_of_memory}
use Rattle.manifest_completion.specs.Outcome.{completed_content, library_text}
use Rattle.manifest_completion.specs.Unfound.{unfound_from, IsAnswer}

-- CONTENTS
abbrev pub discovered_content : FoundTarget → Discovered
discovered_content f = record { name = string_bytes f.name; path = string_bytes f.path }

abbrev pub all_discovered_content : List FoundTarget → List Discovered
all_discovered_content fs = map discovered_content fs

abbrev pub defaults_content : TargetDefaults → Defaults
defaults_content d = record {
  edition = option_map edition_content d.edition;
  crate_type = option_map (λ (t : Bor Text). t.now ∷ []) d.crate_type;
  path = option_map (λ (t : Bor Text). t.now) d.path;
}

-- the error of a listing's fault of this kind
abbrev pub IsFault : Option ErrorKind → Error → Type 0
IsFault k (Io e) = k ≡ Some (error_kind e)
IsFault k _ = ⊥

-- an answer for a folder of targets or an entry ran out of memory, and this is the error of it
abbrev pub RanOutOfMemory : Answers → Error → Type 0
RanOutOfMemory a e = (some_ran_out_of_memory a ≡ true) × IsFault (Some OutOfMemory) e

-- the error of a library without a file, or out of memory
abbrev pub RefusesLibrary : Library → Error → Type 0
RefusesLibrary lib (Other t) = (lib ≡ no_file) × (string_bytes t ≡ library_text)
RefusesLibrary lib (Memory e) = Unit {0}
RefusesLibrary lib _ = ⊥

-- THE FINDS of a folder's names, with the answers for its entries
abbrev pub paired_discovered : Text → List Text → List Answer → List Discovered
paired_discovered d [] given = []
paired_discovered d (n ∷ ns) [] = []
paired_discovered d (n ∷ ns) (a ∷ given) = discovered_in_entry d n a ++ paired_discovered d ns given

abbrev pub folder_paired : Text → FolderAnswers → List Discovered
folder_paired d a = paired_discovered d (names_of (answer_of a.own)) (answers_of a.entries)

-- the finds of each folder, with what was answered at it and at its entries
abbrev pub paired : Answers → TargetFolder → List Discovered
paired a d = folder_paired (folder_text d) (folder_answers a d)

-- the targets are completed with this library, by what was answered
abbrev pub TargetsMade : PackageTargets → Option Product → Answers → CompletedTargets → Type 0
TargetsMade t lib a c =
    completed_content t c ≡ filled_by t lib (answer_of a.source) (answer_of a.root) (paired a)

-- the fault that refuses after all answers: out of memory at a target folder or an entry, or that of the root folder
abbrev pub fault_of_answers : PackageTargets → Answers → Option ErrorKind
fault_of_answers t a =
    if some_ran_out_of_memory a then Some OutOfMemory else root_fault t.build (answer_of a.root)

abbrev pub RefusesByAnswers : PackageTargets → Answers → Error → Type 0
RefusesByAnswers t a (Io e) = fault_of_answers t a ≡ Some (error_kind e)
RefusesByAnswers t a (Memory e) = Unit {0}
RefusesByAnswers t a _ = ⊥

-- what is answered, by what was answered
abbrev pub CompletesByAnswers :
    PackageTargets → Option Product → Answers → Result CompletedTargets Error → Type 0
CompletesByAnswers t lib a (Ok c) = (fault_of_answers t a ≡ None) × TargetsMade t lib a c
CompletesByAnswers t lib a (Err e) = RefusesByAnswers t a e

-- where the declared targets without a file stand, by what was answered
abbrev pub unfound_by_answers : PackageTargets → Answers → List Path
unfound_by_answers t a = unfound_from t (answer_of a.source) (paired a)

-- the answer on unfound targets, by what was answered
abbrev pub AnswersUnfound :
    PackageTargets → Answers → Result (Vec KeyPath Global) Error → Type 0
AnswersUnfound t a =
    IsAnswer
    (λ o. o
    ≡ (if some_ran_out_of_memory a then Err OutOfMemory else Ok (unfound_by_answers t a)))
