-- What completing a manifest answers.
use Rattle.manifest_schema.specs.Prelude.{error_kind, Global, Text, Manifest}
use Rattle.std.specs.Prelude.{◌≡◌, Result, Ok, Err, Vec, string_bytes}
use Rattle.manifest_fault.specs.declared.error.Error.{Error}
use Rattle.manifest_fault.specs.declared.error.Error.TheVariants.{Io, Other, Memory}
use Rattle.manifest_completion.specs.Listings.{Answer}
use Rattle.manifest_completion.specs.Completed.{Completion, completed_to, refused, no_library, completed, asked, ByOneMap}
use Rattle.manifest_completion.specs.Stored.{AnswersAsStored, stored_map}
use Rattle.manifest_completion.specs.Outcome.{library_text, IsRefusalOf}
use Rattle.manifest_completion.specs.Unfound.{manifest_unfound, manifest_asked_unfound, IsAnswer, IsOutcome}
use Rattle.manifest_fault.specs.declared.fault.KeyPath.{KeyPath}

-- the manifest becomes this by one map of listings, whose answer at each place that is asked the filesystem allows
abbrev pub ComesTo : (Text → Answer → Type 0) → Manifest → Completion Manifest → Type 0
ComesTo allows m c = ByOneMap allows (asked m) (completed m) c

-- the refusal to complete: for a fault that the map has, a missing library file, or out of memory
abbrev pub RefusesToComplete : (Text → Answer → Type 0) → Manifest → Error → Type 0
RefusesToComplete allows m (Io e) = ComesTo allows m (refused (error_kind e))
RefusesToComplete allows m (Other s) = ComesTo allows m no_library × (string_bytes s ≡ library_text)
RefusesToComplete allows m (Memory e) = Unit {0}
RefusesToComplete allows m _ = ⊥

-- what completing a manifest answers, which it leaves as the second one
abbrev pub Completes :
    (Text → Answer → Type 0) → Manifest → Manifest → Result (Unit {0}) Error → Type 0
Completes allows old new (Ok u) = ComesTo allows old (completed_to new)
Completes allows old new (Err e) = RefusesToComplete allows old e

-- completing over one stored answer for each path text: what the map of these answers gives, or its refusal
abbrev pub CompletesAsStored :
    (Text → Answer) → Manifest → Manifest → Result (Unit {0}) Error → Type 0
CompletesAsStored stored old new (Ok u) = completed old (stored_map stored) ≡ completed_to new
CompletesAsStored stored old new (Err e) = IsRefusalOf (completed old (stored_map stored)) e

-- there, what is stored decides what completing answers
abbrev pub StoredDecides : Type 0
StoredDecides =
    (stored : Text → Answer) (old new : Manifest) (r : Result (Unit {0}) Error) →
    Completes (AnswersAsStored stored) old new r → CompletesAsStored stored old new r

-- what is answered on the unfound targets of a manifest, by one map of listings whose answers the filesystem allows
abbrev pub IsUnfound :
    (Text → Answer → Type 0) → Manifest → Result (Vec KeyPath Global) Error → Type 0
IsUnfound allows m = IsAnswer (ByOneMap allows (manifest_asked_unfound m) (manifest_unfound m))

-- over one stored answer for each path text, what is stored decides that answer
abbrev pub StoredDecidesUnfound : Type 0
StoredDecidesUnfound =
    (stored : Text → Answer) (m : Manifest) (r : Result (Vec KeyPath Global) Error) →
    IsUnfound (AnswersAsStored stored) m r → IsOutcome (manifest_unfound m (stored_map stored)) r
