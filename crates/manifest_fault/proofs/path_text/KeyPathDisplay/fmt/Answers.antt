use Rattle.std.proofs.Common.{true, ◌≡◌, ◌∷◌, flat_map, map, take, arith, refl, sym, ◌∙◌}
use Rattle.std.proofs.lemmas.Grind.{common_steps, put_two}
use Rattle.std.proofs.lemmas.List.Folds.{flat_map-map}
use Rattle.manifest_schema.specs.PathTexts.{next_text}
use Rattle.manifest_fault.specs.Faults.{step_of}
use Rattle.manifest_fault.proofs.path_text.KeyPathDisplay.fmt.Goals as goal

pub returns-clause-writes : goal.returns-clause-writes
returns-clause-writes g c = λ plain ok.
    let first = c.in-Some.first.now in
    let rest = c.in-Some.rest.now in
    let steps : c.args.self.now.steps.items ≡ first ∷ rest = sym c.deref.ensures.value ∙ c.in-Some.ensures.cases.0 in
    let begun = c.in_ok-write_step.ensures plain (refl {a = true}) in
    let whole : take c.loop-step.step-index rest ≡ rest = grind (arith, common_steps) in
    let more : flat_map (λ s. next_text (step_of s)) (take c.loop-step.step-index rest) ≡ flat_map next_text
    (map step_of rest) = rw whole (sym (flat_map-map next_text step_of rest)) in
    put_two _ _ _ _ _ _ _ begun (c.loop-step.invariant begun.plain) (rw (steps, more))
