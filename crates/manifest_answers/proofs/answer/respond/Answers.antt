use Rattle.std.proofs.Common.{sym, subst, ◌∙◌}
use Rattle.std.specs.Prelude.{option_copied}
use Rattle.manifest_answers.specs.Made.{boxed_content, Makes, RefusesToMake, Gives, OrOutput, IsMade}
use Rattle.manifest_answers.specs.declared.reading.Input.{Input}
use Rattle.manifest_answers.proofs.DateLemmas.{is_not_seven}
use Rattle.manifest_answers.proofs.MadeLemmas.{finished}
use Rattle.manifest_answers.proofs.answer.respond.Goals as goal

pub returns-clause-answers : goal.returns-clause-answers
returns-clause-answers c =
    let asked = c.args.asked in
    let bytes = c.args.bytes.now in
    let root = option_copied c.args.root in
    let folders = option_copied c.args.folders in
    record {
      made = c.output_or_refusal-text.result;
      report = c.outcome-report.result;
      is_made = finished boxed_content asked.output asked.most asked.input bytes root folders
          (RefusesToMake asked.most asked.input bytes root folders) c.make-made.result c.output_or_refusal-text.result
          c.make-made.ensures.ok c.make-made.ensures.refused c.output_or_refusal-text.ensures.made
          c.output_or_refusal-text.ensures.refused;
      outcome = c.outcome-report.ensures;
      returned = c.write_answer.ensures;
    }

pub returns-clause-dates : goal.returns-clause-dates
returns-clause-dates c = λ is_toml seven.
    let asked = c.args.asked in
    let bytes = c.args.bytes.now in
    let root = option_copied c.args.root in
    let folders = option_copied c.args.folders in
    let made = finished boxed_content asked.output asked.most asked.input bytes root folders
    (RefusesToMake asked.most asked.input bytes root folders) c.make-made.result c.output_or_refusal-text.result
    c.make-made.ensures.ok c.make-made.ensures.refused c.output_or_refusal-text.ensures.made
    c.output_or_refusal-text.ensures.refused in
    let of_text = subst (λ (input : Input). IsMade (Gives asked.output asked.most (Makes asked.most input bytes root
    folders)) (OrOutput asked.output asked.most (Makes asked.most input bytes root folders)
    (RefusesToMake asked.most input bytes root folders)) c.output_or_refusal-text.result) is_toml made in
    is_not_seven asked.output asked.most bytes root folders c.output_or_refusal-text.result c.outcome-report.result
    of_text c.outcome-report.ensures (sym c.write_answer.ensures.status ∙ seven)
