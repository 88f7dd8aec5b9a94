-- What the steps of looking for targets without a file give, by the definitions.
use Rattle.manifest_schema.specs.Prelude.{append-nil, Global, NotFound, OutOfMemory, Text, Path, Manifest}
use Rattle.std.proofs.Common.{◌≡◌, List, [], ◌∷◌, Bool, true, false, refl, ap, sym, ◌∙◌, subst, None, if◌then◌else◌, Result, Ok, Err, Vec}
use Rattle.std.specs.Result.{IsErrAnd}
use Rattle.manifest_fault.specs.declared.error.Error.{Error}
use Rattle.manifest_fault.specs.declared.error.Error.TheVariants.{Io, Memory}
use Rattle.manifest_fault.specs.declared.fault.KeyPath.{KeyPath}
use Rattle.manifest_completion.specs.declared.ask.Answers.{Answers}
use Rattle.manifest_completion.specs.Listings.{Answer, fault, Place, source, path_text, at}
use Rattle.manifest_completion.specs.Completed.{PackageTargets, Explains, ByOneMap, target_places, source_fault, up_to_memory_fault}
use Rattle.manifest_completion.specs.Answered.{answer_of}
use Rattle.manifest_completion.specs.Asking.{IsAllowedAnswer, listing_map, AllIsAnswered, some_ran_out_of_memory}
use Rattle.manifest_completion.specs.Steps.{IsFault, unfound_by_answers, AnswersUnfound}
use Rattle.manifest_completion.specs.Unfound.{unfound_from, unfound, unfound_targets, asked_unfound, manifest_unfound, manifest_asked_unfound, AreUnfound}
use Rattle.manifest_completion.proofs.AskLemmas.{none_ascend}
use Rattle.manifest_completion.proofs.CompleteLemmas.{only_source, only_ascends, any_fault, paired_finds}

-- `src` is a fault
pub source_error : (allows : Text → Answer → Type 0) (t : PackageTargets) (src : Answer) (e : Error)
    (r : Result (Vec KeyPath Global) Error) → IsAllowedAnswer allows (path_text source) src → IsFault (source_fault src)
    e → IsErrAnd r (λ x. x ≡ e) → AreUnfound allows t r
source_error allows t src e (Ok v) ok h is = absurd is
source_error allows t src e (Err x) ok h is = subst (λ (y : Error). AreUnfound allows t (Err y)) (sym is) (one e h)
  where
    one : (y : Error) → IsFault (source_fault src) y → AreUnfound allows t (Err y)
    one (Io f) k = (only_source src, record { ascending = only_ascends src ok.0; allowed = rw k (ok.1, tt) }, rw k refl)
    one _ k = absurd k

-- all was answered
module _ (allows : Text → Answer → Type 0) (t : PackageTargets) (a : Answers) (given : AllIsAnswered allows false a)
    (none : source_fault (answer_of a.source) ≡ None) where
  explains : Explains allows (listing_map a) (asked_unfound t (listing_map a))
  explains =
      let l = listing_map a in
      rw none (subst (λ (ps : List Place). Explains allows l (source ∷ up_to_memory_fault (at l) ps))
      (append-nil (target_places l)) given.explained)

  outcome : unfound_targets t (listing_map a) ≡ (if some_ran_out_of_memory a then Err OutOfMemory else Ok
      (unfound_by_answers t a))
  outcome = rw (none, any_fault a given.in_turn) (one (some_ran_out_of_memory a) refl)
    where
      one : (b : Bool) → some_ran_out_of_memory a ≡ b → (if b then Err OutOfMemory else Ok (unfound t (listing_map a)))
          ≡ (if b then Err OutOfMemory else Ok (unfound_by_answers t a))
      one true e = refl
      one false e = ap Ok (ap (unfound_from t (answer_of a.source)) (paired_finds a given.in_turn e))

  pub by_answers : (r : Result (Vec KeyPath Global) Error) → AnswersUnfound t a r → AreUnfound allows t r
  by_answers (Ok v) h = (listing_map a, explains, outcome ∙ sym h)
  by_answers (Err (Io e)) h = (listing_map a, explains, outcome ∙ sym h)
  by_answers (Err (Memory e)) h = tt
  by_answers (Err _) h = absurd h

-- WITHOUT A PACKAGE nothing is asked, and any map explains it
pub without_package : (allows : Text → Answer → Type 0) (m : Manifest) (given : List Path) → m.«package» ≡ None
    → given ≡ [] → ByOneMap allows (manifest_asked_unfound m) (manifest_unfound m) (Ok given)
without_package allows m given e none = (
  only_source (fault NotFound),
  record { ascending = only_ascends (fault NotFound) none_ascend; allowed = rw e tt },
  rw (e, none) refl,
)
