-- What is promised of completion.
use Rattle.manifest_schema.specs.Prelude.{AllByRecursion, bytes_eq, Data, Text, Kind, Manifest, well_formed, reads_manifest, written_manifest}
use Rattle.std.specs.Prelude.{◌≡◌, List, [], ◌∷◌, map, ◌⊎◌, Result}
use Rattle.std.specs.List.{IsDistinct}
use Rattle.manifest_fault.specs.declared.error.Error.{Error}
use Rattle.manifest_completion.specs.declared.completion.CompletedTargets.{CompletedTargets}
use Rattle.manifest_completion.specs.Listings.{Answer, Place, path_text, ListingMap, at, NamesAscend, HasNoNameTwice}
use Rattle.manifest_completion.specs.Completed.{PackageTargets, completed_to, completed, asked}
use Rattle.manifest_completion.specs.Stored.{AnswersAsStored}
use Rattle.manifest_completion.specs.Outcome.{TargetsCompleted, CompletedAsStored}

-- all path texts that are asked differ, whatever names are listed
abbrev pub AskedDiffer : Type 0
AskedDiffer =
    (m : Manifest) (l : ListingMap) → HasNoNameTwice l →
    IsDistinct bytes_eq (map path_text (asked m l))

-- names that ascend are in no folder twice
abbrev pub AscendingDiffer : Type 0
AscendingDiffer = (l : ListingMap) → NamesAscend l → HasNoNameTwice l

-- two maps have the same answer at each of these places
abbrev pub AgreeAt : ListingMap → ListingMap → List Place → Type 0
AgreeAt l k ps = AllByRecursion (λ p. at l p ≡ at k p) ps

-- what is asked and what a manifest becomes depend on the answers at the places that are asked alone
abbrev pub AskedDecides : Type 0
AskedDecides =
    (m : Manifest) (l k : ListingMap) → AgreeAt l k (asked m l) →
    (asked m l ≡ asked m k) × (completed m l ≡ completed m k)

-- where one answer is stored for each path text, what is stored decides what completing answers
abbrev pub StoredDecidesTargets : Type 0
StoredDecidesTargets =
    (stored : Text → Answer) (t : PackageTargets) (r : Result CompletedTargets Error) →
    TargetsCompleted (AnswersAsStored stored) t r → CompletedAsStored stored t r

-- the place is one of these
abbrev pub IsAmong : List Place → Place → Type 0
IsAmong [] p = ⊥
IsAmong (q ∷ qs) p = (p ≡ q) ⊎ IsAmong qs p

-- a completed manifest n is well-formed, read back, and unchanged by completing it again, which asks no new place
pub record IsFixed (K W : Kind Data) (m n : Manifest) (l : ListingMap) : Type 0 where
  pub formed : well_formed K W n
  pub read : reads_manifest K W (written_manifest K W n) n
  pub unchanged : completed n l ≡ completed_to n
  pub asked : AllByRecursion (IsAmong (asked m l)) (asked n l)

-- completing a well-formed manifest, writing it, reading it and completing it again changes nothing
abbrev pub CompletedIsFixed : Kind Data → Kind Data → Type 0
CompletedIsFixed K W =
    (m n : Manifest) (l : ListingMap) → well_formed K W m → completed m l ≡ completed_to n →
    IsFixed K W m n l
