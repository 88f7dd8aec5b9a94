use Rattle.std.proofs.Common.{◌≡◌, ap, sym, subst, ◌∙◌, None, codes, option_map}
use Rattle.manifest_parts.specs.Records.{product_content}
use Rattle.manifest_completion.specs.Completed.{source_fault, library, known}
use Rattle.manifest_completion.specs.Answered.{answer_of}
use Rattle.manifest_completion.specs.Asking.{IsAllowedAnswer, AllIsAnswered}
use Rattle.manifest_completion.specs.Outcome.{declared_content}
use Rattle.manifest_completion.proofs.CompleteLemmas.{source_error, library_error, by_answers, refused_with}
use Rattle.manifest_completion.proofs.completion.complete.Goals as goal

pub returns-in_err-source : goal.returns-in_err-source
returns-in_err-source g c =
    let allows = g.FS.AbstractFilesystem.allows c.args.fs.now in let t = declared_content c.args.declared.now in
    refused_with allows t c.from_residual.result c.in_err-source.field-0.0 c.from_residual.ensures.1
    (source_error allows t (answer_of c.ask.result) c.ask.ensures c.in_err-source.field-0.0 c.in_err-source.ensures)

pub returns-in_err-lib : goal.returns-in_err-lib
returns-in_err-lib g c =
    let allows = g.FS.AbstractFilesystem.allows c.args.fs.now in let t = declared_content c.args.declared.now in
    let s = c.in_ok-source.source in
    let ok = subst (λ x. IsAllowedAnswer allows (codes "src") (answer_of x)) (sym c.in_ok-source.ensures.0)
    c.ask.ensures in
    let none : source_fault (answer_of s) ≡ None = ap (λ x. source_fault (answer_of x)) c.in_ok-source.ensures.0
    ∙ c.in_ok-source.ensures.1 in
    refused_with allows t c.from_residual-in_err-lib.result c.in_err-lib.field-0.0 c.from_residual-in_err-lib.ensures.1
    (library_error allows t (answer_of s) ok none c.in_err-lib.field-0.0 c.in_err-lib.ensures)

pub ask_folders-requires : goal.ask_folders-requires
ask_folders-requires g c = subst (λ x. IsAllowedAnswer (g.FS.AbstractFilesystem.allows c.args.fs.now) (codes "src")
    (answer_of x)) (sym c.in_ok-source.ensures.0) c.ask.ensures

pub returns : goal.returns
returns g c =
    let allows = g.FS.AbstractFilesystem.allows c.args.fs.now in let t = declared_content c.args.declared.now in
    let s = c.in_ok-source.source in let a = c.in_ok-answers.answers in
    let same = c.in_ok-answers.ensures.source in
    let none : source_fault (answer_of a.source) ≡ None = ap (λ x. source_fault (answer_of x)) (same
    ∙ c.in_ok-source.ensures.0) ∙ c.in_ok-source.ensures.1 in
    let got = subst (λ x. library t (answer_of x) ≡ known (option_map product_content c.in_ok-lib.lib)) (sym same)
    c.in_ok-lib.ensures in
    let given = subst (λ x. AllIsAnswered allows x a) c.asks_root.ensures c.in_ok-answers.ensures.answered in
    by_answers allows t a given none (option_map product_content c.in_ok-lib.lib) got
    c.complete_by_answers-completed.result c.complete_by_answers-completed.ensures
