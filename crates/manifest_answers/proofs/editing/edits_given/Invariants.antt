use Rattle.std.proofs.Common.{◌≡◌, map, take}
use Rattle.manifest_places.specs.Edits.{edit_of}
use Rattle.manifest_answers.specs.Edited.{given_edit}
use Rattle.manifest_answers.proofs.editing.edits_given.Given as goal

-- the edits so far are those that were given so far
abbrev pub invariant-loop-edit : goal.invariant-loop-edit
invariant-loop-edit l = map edit_of l.edits.items ≡ map given_edit (take l.edit-index l.given)
