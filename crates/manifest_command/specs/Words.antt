-- What the code takes the words for, and what it does then.
use Rattle.manifest_schema.specs.Prelude.{Bor, Global}
use Rattle.std.specs.Prelude.{◌≡◌, ℕ, List, Option, Some, None, IfSome, String, codes}
use Rattle.manifest_command.specs.declared.words.Request.{Request}
use Rattle.manifest_command.specs.declared.words.Request.TheVariants.{CanonInput, CanonFile, CompleteFile, CompleteMember}
use Rattle.manifest_command.specs.Run.{IsCanonInput, Asked, canon_file, complete_file, complete_member, IsFile, Asks, AreWrong, MayPrint, PrintsOne, BeginsOne, IsPrinted, IsBegun}

-- what is asked for with a file
abbrev pub asked_by : Request → Option Asked
asked_by CanonInput = None
asked_by (CanonFile f) = Some canon_file
asked_by (CompleteFile f) = Some complete_file
asked_by (CompleteMember f r) = Some complete_member

-- what is asked for where a manifest is completed, by its root's file or without one
abbrev pub completes_by : Option (Bor (List ℕ)) → Asked
completes_by None = complete_file
completes_by (Some root) = complete_member

-- the words ask for it, or for standard input
abbrev pub AskFor : Option Asked → List (String Global) → Type 0
AskFor None words = IsCanonInput words
AskFor (Some a) words = Asks a words

-- what the words are read as is what they ask for
abbrev pub IsRequestOf : List (String Global) → Option Request → Type 0
IsRequestOf words (Some r) = AskFor (asked_by r) words
IsRequestOf words None = AreWrong words

-- the same for two words
abbrev pub IsPairOf : List ℕ → List ℕ → Option Request → Type 0
IsPairOf verb file (Some CanonInput) = (verb ≡ codes "canon") × (file ≡ codes "-")
IsPairOf verb file (Some (CanonFile f)) = (verb ≡ codes "canon") × IsFile file
IsPairOf verb file (Some (CompleteFile f)) = (verb ≡ codes "complete") × IsFile file
IsPairOf verb file (Some (CompleteMember f r)) = ⊥
IsPairOf verb file None =
    (verb ≡ codes "canon" → file ≡ codes "-" → ⊥)
    × (verb ≡ codes "canon" → IsFile file → ⊥)
    × (verb ≡ codes "complete" → IsFile file → ⊥)

-- these four words ask for a member
pub record AskForMember (verb file option root : List ℕ) : Type 0 where
  pub verb_is : verb ≡ codes "complete"
  pub file_is : IsFile file
  pub option_is : option ≡ codes "--workspace"
  pub root_is : IsFile root

-- four words are read as what they ask for
abbrev pub IsFourOf : List ℕ → List ℕ → List ℕ → List ℕ → Option Request → Type 0
IsFourOf v f o r (Some (CompleteMember g s)) = AskForMember v f o r
IsFourOf v f o r (Some _) = ⊥
IsFourOf v f o r None = ¬ AskForMember v f o r

-- what was asked for was printed
abbrev pub Serves : Option Asked → Option (List ℕ) → Option (List ℕ) → Option (List ℕ) → Type 0
Serves None known old new = IfSome known (λ bytes. IsPrinted bytes old new)
Serves (Some a) known old new = PrintsOne (MayPrint a) old new

-- nothing of it was printed, or a beginning
abbrev pub Fails : Option Asked → Option (List ℕ) → Option (List ℕ) → Option (List ℕ) → Type 0
Fails None known old new = IfSome known (λ bytes. IsBegun bytes old new)
Fails (Some a) known old new = BeginsOne (MayPrint a) old new
