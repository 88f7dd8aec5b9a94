use Rattle.std.proofs.Common.{◌≡◌, ap, ◌∙◌, None}
use Rattle.manifest_completion.specs.Answered.{answer_of}
use Rattle.manifest_completion.specs.Completed.{source_fault}
use Rattle.manifest_completion.specs.Outcome.{declared_content}
use Rattle.manifest_completion.proofs.UnfoundLemmas.{source_error, by_answers}
use Rattle.manifest_completion.proofs.unfound.unfound_targets.Goals as goal

pub returns-in_err-source : goal.returns-in_err-source
returns-in_err-source g c =
    source_error (g.FS.AbstractFilesystem.allows c.args.fs.now) (declared_content c.args.declared.now)
    (answer_of c.ask.result) c.in_err-source.field-0.0 c.from_residual.result c.ask.ensures c.in_err-source.ensures
    c.from_residual.ensures.1

pub returns : goal.returns
returns g c =
    let a = c.in_ok-answers.answers in
    let none : source_fault (answer_of a.source) ≡ None = ap (λ x. source_fault (answer_of x))
    (c.in_ok-answers.ensures.source ∙ c.in_ok-source.ensures.0) ∙ c.in_ok-source.ensures.1 in
    by_answers (g.FS.AbstractFilesystem.allows c.args.fs.now) (declared_content c.args.declared.now) a
    c.in_ok-answers.ensures.answered none c.unfound_by_answers-unfound.result c.unfound_by_answers-unfound.ensures
