use Rattle.std.proofs.Common.{[], ◌∙◌, sym, arith, append-nil}
use Rattle.std.proofs.lemmas.Bool.Decides.{Decides-eqb}
use Rattle.std.proofs.lemmas.Grind.{common_steps}
use Rattle.std.proofs.lemmas.Slice.Eq.{slice_eq-Decides}
use Rattle.manifest_bytes.specs.Encoded.{encoded}
use Rattle.manifest_bytes.proofs.values.value_of_bytes.Goals as goal

pub returns-in-Err-Invalid-clause-inverse : goal.returns-in-Err-Invalid-clause-inverse
returns-in-Err-Invalid-clause-inverse c d fits h =
    let read = c.read_value.ensures.reads d [] fits (h ∙ sym (append-nil (encoded d))) in
    grind (arith, common_steps)

pub returns-in-Err-Refused-clause-inverse : goal.returns-in-Err-Refused-clause-inverse
returns-in-Err-Refused-clause-inverse c d fits h =
    let read = c.read_value.ensures.reads d [] fits (h ∙ sym (append-nil (encoded d))) in
    grind (arith, common_steps)

pub returns-then-eq-clause-inverse : goal.returns-then-eq-clause-inverse
returns-then-eq-clause-inverse c d fits h =
    let read = c.read_value.ensures.reads d [] fits (h ∙ sym (append-nil (encoded d))) in
    grind (arith, common_steps)

pub returns-clause-inverse : goal.returns-clause-inverse
returns-clause-inverse c d fits h =
    let read = c.read_value.ensures.reads d [] fits (h ∙ sym (append-nil (encoded d))) in
    grind (
      arith,
      common_steps,
      slice_eq-Decides Decides-eqb c.as_slice.result.now c.args.bytes.now c.eq.result
          c.eq.ensures,
    )
