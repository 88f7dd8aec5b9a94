use Rattle.std.proofs.Common.{map, inr, subst}
use Rattle.manifest_places.specs.Edits.{edit_of, IsReason}
use Rattle.manifest_answers.proofs.editing.edited.Goals as goal

pub returns-in-Err-with_edits-clause-refused : goal.returns-in-Err-with_edits-clause-refused
returns-in-Err-with_edits-clause-refused c =
    let error = c.in-Err-with_edits.error in
    let text = subst (λ t. IsReason t (map edit_of c.in-Ok.edits.items) error) c.in-Ok-shallow_text.ensures.ok.0
    c.in-Err-with_edits.ensures.refused in
    inr (inr (error, subst (λ es. IsReason c.args.bytes.now es error) c.in-Ok.ensures.ok text, c.refused_edits.ensures))
