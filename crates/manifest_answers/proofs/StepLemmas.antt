-- What is made of one step, said of the next one.
use Rattle.manifest_schema.specs.Prelude.{Text}
use Rattle.std.proofs.Common.{ℕ, Vec, Global, Result, Ok, Err}
use Rattle.manifest_answers.specs.declared.refusal.Refusal.{Refusal}
use Rattle.manifest_answers.specs.Made.{Refusals, IsMade}

pub made_weaker : (gives more : Text → Type 0) (refuses others : Refusals) (r : Result (Vec ℕ Global) Refusal)
    → ((t : Text) → gives t → more t) → ((e : Refusal) → refuses e → others e) → IsMade gives refuses r
    → IsMade more others r
made_weaker gives more refuses others (Ok v) f g made = f v.items made
made_weaker gives more refuses others (Err e) f g made = g e made
