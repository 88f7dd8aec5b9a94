-- The answers at the places that are asked decide which declared targets are unfound; and so does what is stored.
use Rattle.manifest_schema.specs.Prelude.{error_kind, append-nil, AllByRecursion, Global, ErrorKind, OutOfMemory, Text, Path, Package, Manifest}
use Rattle.std.proofs.Common.{◌≡◌, ◌⊎◌, inl, inr, ⊎_elim, List, [], ◌∷◌, Bool, true, false, refl, ap, ap₂, sym, ◌∙◌, subst, map, Option, Some, None, if◌then◌else◌, Result, Ok, Err, Vec}
use Rattle.manifest_fault.specs.declared.error.Error.{Error}
use Rattle.manifest_fault.specs.declared.error.Error.TheVariants.{Io, Memory}
use Rattle.manifest_fault.specs.declared.fault.KeyPath.{KeyPath}
use Rattle.manifest_fault.specs.Faults.{path_of}
use Rattle.manifest_completion.specs.Listings.{Answer, Place, source, path_text, ListingMap, at}
use Rattle.manifest_completion.specs.Completed.{PackageTargets, AllAllowed, ByOneMap, target_places, has_memory_fault, source_fault, up_to_memory_fault, targets_of}
use Rattle.manifest_completion.specs.Stored.{AnswersAsStored, stored_map}
use Rattle.manifest_completion.specs.Laws.{AgreeAt}
use Rattle.manifest_completion.specs.Unfound.{unfound_from, unfound, unfound_targets, asked_unfound, unfound_by, asked_unfound_by, manifest_unfound, manifest_asked_unfound, IsAnswer, IsOutcome, AskedDecidesUnfound, StoredDecidesUnfound}
use Rattle.manifest_completion.proofs.DecidesLaws.{memory_seen, memory_agrees, targets_alone, all_asked, same_finds, AgreeUpTo}
use Rattle.manifest_completion.proofs.StoredLaws.{IsAllowed, Settles, targets_walk}

-- where `src` has no fault that refuses
by_memory : (t : PackageTargets) (l : ListingMap) → source_fault l.source ≡ None
    → unfound_targets t l ≡ (if has_memory_fault (at l) (target_places l) then Err OutOfMemory else Ok (unfound t l))
by_memory t l none = rw none refl

-- TWO MAPS
module _ (l k : ListingMap) (t : PackageTargets) (e : l.source ≡ k.source) where
  abbrev IsSame : Type 0
  IsSame = (asked_unfound t l ≡ asked_unfound t k) × (unfound_targets t l ≡ unfound_targets t k)

  same_unfound : AgreeAt l k (target_places l) → unfound t l ≡ unfound t k
  same_unfound h = ap₂ (unfound_from t) e (same_finds l k h)

  after_none : source_fault l.source ≡ None → AgreeUpTo l k (target_places l) → IsSame
  after_none none h = (asked, outcome)
    where
      asked : asked_unfound t l ≡ asked_unfound t k
      asked = rw (none, sym e, none) (ap (λ (ps : List Place). source ∷ ps) (targets_alone l k h))

      memory : has_memory_fault (at l) (target_places l) ≡ has_memory_fault (at k) (target_places k)
      memory =
          sym (memory_seen (at l) (target_places l))
          ∙ memory_agrees l k (up_to_memory_fault (at l) (target_places l)) h
          ∙ ap (has_memory_fault (at k)) (targets_alone l k h)
          ∙ memory_seen (at k) (target_places k)

      calm_same : (b : Bool) → has_memory_fault (at l) (target_places l) ≡ b
          → (if b then Err OutOfMemory else Ok (unfound t l)) ≡ (if b then Err OutOfMemory else Ok (unfound t k))
      calm_same true lost = refl
      calm_same false calm = ap Ok (same_unfound (all_asked l k (target_places l) [] calm
          (subst (AgreeUpTo l k) (sym (append-nil (target_places l))) h)).0)

      outcome : unfound_targets t l ≡ unfound_targets t k
      outcome =
          by_memory t l none
          ∙ calm_same (has_memory_fault (at l) (target_places l)) refl
          ∙ ap (λ (b : Bool). if b then Err OutOfMemory else Ok (unfound t k)) memory
          ∙ sym (by_memory t k (ap source_fault (sym e) ∙ none))

  same_targets : AgreeAt l k (asked_unfound t l) → IsSame
  same_targets h = by_source (source_fault l.source) refl
    where
      by_source : (s : Option ErrorKind) → source_fault l.source ≡ s → IsSame
      by_source (Some r) f = (rw (f, sym e, f) refl, rw (f, sym e, f) refl)
      by_source None f = after_none f ((rw f at h).1)

targets_decide : (t : PackageTargets) (l k : ListingMap) → AgreeAt l k (asked_unfound t l)
    → (asked_unfound t l ≡ asked_unfound t k) × (unfound_targets t l ≡ unfound_targets t k)
targets_decide t l k h = same_targets l k t h.0 h

pub asked_decides : AskedDecidesUnfound
asked_decides m l k h = one m.«package» h
  where
    one : (o : Option Package) → AgreeAt l k (asked_unfound_by o m l) → (asked_unfound_by o m l ≡ asked_unfound_by o m
        k) × (unfound_by o m l ≡ unfound_by o m k)
    one None g = (refl, refl)
    one (Some p) g = targets_decide (targets_of p m) l k g

-- WHAT IS STORED
module _ (stored : Text → Answer) where
  targets_settled : (t : PackageTargets) (l : ListingMap) → AllAllowed (AnswersAsStored stored) l (asked_unfound t l)
      → (unfound_targets t l ≡ unfound_targets t (stored_map stored)) ⊎ (unfound_targets t l ≡ Err OutOfMemory)
  targets_settled t l h = ⊎_elim (λ same. by_source same (source_fault l.source) refl) (λ lost. inr (rw lost refl)) h.0
    where
      agreed : AgreeAt l (stored_map stored) (asked_unfound t l)
          → (unfound_targets t l ≡ unfound_targets t (stored_map stored)) ⊎ (unfound_targets t l ≡ Err OutOfMemory)
      agreed g = inl (targets_decide t l (stored_map stored) g).1

      walked : AllByRecursion (IsAllowed stored l) (up_to_memory_fault (at l) (target_places l))
          → Settles stored l (target_places l)
      walked g =
          let nil = append-nil (target_places l) in
          subst (Settles stored l) nil (targets_walk stored l false
          (subst (λ (ps : List Place). AllByRecursion (IsAllowed stored l) (up_to_memory_fault (at l) ps)) (sym nil)
          g))

      by_source : l.source ≡ stored (path_text source) → (s : Option ErrorKind) → source_fault l.source ≡ s
          → (unfound_targets t l ≡ unfound_targets t (stored_map stored)) ⊎ (unfound_targets t l ≡ Err OutOfMemory)
      by_source same (Some r) f = agreed (rw f (same, tt))
      by_source same None f = ⊎_elim (λ agree. agreed (rw f (same, agree)))
          (λ lost. inr (by_memory t l f ∙ ap (λ (b : Bool). if b then Err OutOfMemory else Ok (unfound t l)) lost))
          (walked (rw f at h).1)

  pub manifest_settled : (m : Manifest) (l : ListingMap) → AllAllowed (AnswersAsStored stored) l
      (manifest_asked_unfound m l) → (manifest_unfound m l ≡ manifest_unfound m (stored_map stored))
      ⊎ (manifest_unfound m l ≡ Err OutOfMemory)
  manifest_settled m l h = one m.«package» h
    where
      one : (o : Option Package) → AllAllowed (AnswersAsStored stored) l (asked_unfound_by o m l)
          → (unfound_by o m l ≡ unfound_by o m (stored_map stored)) ⊎ (unfound_by o m l ≡ Err OutOfMemory)
      one None g = inl refl
      one (Some p) g = targets_settled (targets_of p m) l g

  -- an answer by a map whose outcome is that of what is stored, or that memory ran out
  module _ (asked : ListingMap → List Place) (outcome : ListingMap → Result (List Path) ErrorKind)
      (settled : (l : ListingMap) → AllAllowed (AnswersAsStored stored) l (asked l)
      → (outcome l ≡ outcome (stored_map stored)) ⊎ (outcome l ≡ Err OutOfMemory)) where
    by_map : (l : ListingMap) (o : Result (List Path) ErrorKind) → AllAllowed (AnswersAsStored stored) l (asked l)
        → outcome l ≡ o → (outcome (stored_map stored) ≡ o) ⊎ (o ≡ Err OutOfMemory)
    by_map l o h f = ⊎_elim (λ same. inl (sym same ∙ f)) (λ lost. inr (sym f ∙ lost)) (settled l h)

    pub is_outcome : (r : Result (Vec KeyPath Global) Error) → IsAnswer (ByOneMap (AnswersAsStored stored) asked
        outcome) r → IsOutcome (outcome (stored_map stored)) r
    is_outcome (Ok v) h = ⊎_elim (λ same. same) (λ lost. cc) (by_map h.0 (Ok (map path_of v.items)) h.1.allowed h.2)
    is_outcome (Err (Io e)) h = ⊎_elim (λ same. inl same) (λ lost. inr cc) (by_map h.0 (Err (error_kind e)) h.1.allowed
        h.2)
    is_outcome (Err (Memory e)) h = tt
    is_outcome (Err _) h = absurd h

pub stored_decides : StoredDecidesUnfound
stored_decides stored t r h = is_outcome stored (asked_unfound t) (unfound_targets t) (targets_settled stored t) r h
