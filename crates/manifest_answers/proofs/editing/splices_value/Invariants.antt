use Rattle.manifest_schema.specs.Prelude.{view}
use Rattle.std.proofs.Common.{◌≡◌, map, take}
use Rattle.manifest_places.specs.Splices.{splice_of}
use Rattle.manifest_answers.specs.Edited.{splice_data}
use Rattle.manifest_answers.proofs.editing.splices_value.Given as goal

-- the values so far are those of what is replaced so far
abbrev pub invariant-loop-splice : goal.invariant-loop-splice
invariant-loop-splice l =
    map view l.values.items ≡ map splice_data (map splice_of (take l.splice-index l.splices))
