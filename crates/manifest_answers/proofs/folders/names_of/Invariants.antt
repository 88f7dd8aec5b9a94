use Rattle.manifest_schema.specs.Prelude.{Bor, iter_rest, Text}
use Rattle.std.proofs.Common.{◌≡◌, ◌++◌, List}
use Rattle.manifest_completion.specs.Answered.{set_names}
use Rattle.manifest_answers.specs.Given.{texts, AreNames}
use Rattle.manifest_answers.proofs.GivenLemmas.{IsLeast}
use Rattle.manifest_answers.proofs.folders.names_of.Given as goal

-- the names that it has gone over are names, and the set has them
abbrev pub invariant-loop-name : goal.invariant-loop-name
invariant-loop-name l =
    (done : List (Bor Text)) × (l.given ≡ iter_rest l.name-iterator.iter ++ done)
    × (set_names l.names ≡ texts done) × AreNames (texts done) × IsLeast l.least (texts done)
