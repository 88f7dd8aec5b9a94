use Rattle.manifest_schema.specs.Prelude.{view}
use Rattle.std.proofs.Common.{◌≡◌, map, take}
use Rattle.manifest_answers.specs.Placed.{located_data}
use Rattle.manifest_answers.proofs.placing.places_value.Given as goal

-- the values so far are those of the places so far
abbrev pub invariant-loop-located : goal.invariant-loop-located
invariant-loop-located l = map view l.values.items ≡ map located_data (take l.located-index l.all)
