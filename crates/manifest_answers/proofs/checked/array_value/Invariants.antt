use Rattle.manifest_schema.specs.Prelude.{view}
use Rattle.std.proofs.Common.{◌≡◌, map, take}
use Rattle.manifest_answers.proofs.checked.array_value.Given as goal

-- the values so far are those of the items so far
abbrev pub invariant-loop-item : goal.invariant-loop-item
invariant-loop-item g l = map view l.values.items ≡ map g.T.Reported.reported (take l.item-index l.items)
