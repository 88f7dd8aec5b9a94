use Rattle.std.proofs.Common.{◌<◌, length, get_or, sym, ap, ◌∙◌, arith}
use Rattle.std.proofs.lemmas.Bool.Decides.{nat_tests}
use Rattle.std.proofs.lemmas.Grind.{common_steps}
use Rattle.manifest_places.specs.Lines.{end_after, offset_position}
use Rattle.manifest_places.proofs.LineLemmas.{position_more}
use Rattle.manifest_places.proofs.lines.advanced.Goals as goal

pub loop-i-preserved : goal.loop-i-preserved
loop-i-preserved c =
    let text = c.args.text.now in
    let i = c.loop-i.i in
    let lt : i < length text = grind (arith, nat_tests, common_steps) in (
      c.after-now.ensures.value
          ∙ ap (λ s. end_after s (get_or c.as_bytes-bytes.result.now i 0)) c.loop-i.invariant.0
          ∙ ap (λ t. end_after (offset_position text i) (get_or t i 0)) c.as_bytes-bytes.ensures.value
          ∙ sym (position_more text i 0 lt),
      c.after-now.ensures.small,
    )
