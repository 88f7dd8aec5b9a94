use Rattle.manifest_schema.specs.Prelude.{view, string, Text}
use Rattle.std.proofs.Common.{◌≡◌, map, take, Bor}
use Rattle.manifest_answers.proofs.inspecting.words_value.Given as goal

-- the values so far are those of the words so far
abbrev pub invariant-loop-choice : goal.invariant-loop-choice
invariant-loop-choice l =
    map view l.words.items ≡ map string (map (λ (w : Bor Text). w.now) (take l.choice-index l.choices))
