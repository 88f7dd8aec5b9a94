use Rattle.manifest_schema.specs.Prelude.{view}
use Rattle.std.proofs.Common.{◌≡◌, map, take}
use Rattle.manifest_places.specs.Lines.{position_of}
use Rattle.manifest_answers.specs.Positions.{position_data}
use Rattle.manifest_answers.proofs.positions.positions_value.Given as goal

-- the values so far are those of the positions so far
abbrev pub invariant-loop-position : goal.invariant-loop-position
invariant-loop-position l =
    map view l.values.items ≡ map position_data (map position_of (take l.position-index l.all))
