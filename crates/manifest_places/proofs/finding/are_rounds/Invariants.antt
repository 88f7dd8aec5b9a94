use Rattle.std.proofs.Common.{drop}
use Rattle.manifest_places.specs.Finding.{AreRounds}
use Rattle.manifest_places.proofs.finding.are_rounds.Given as goal

abbrev pub invariant-loop-round : goal.invariant-loop-round
invariant-loop-round l = AreRounds l.text (drop l.round-index l.rounds) → AreRounds l.text l.rounds
