use Rattle.std.proofs.Common.{◌≡◌, false, subst}
use Rattle.std.proofs.lemmas.Result.{IfOk-weaker}
use Rattle.manifest_completion.specs.Listings.{folder_text}
use Rattle.manifest_completion.specs.Asking.{FolderIsAnswered}
use Rattle.manifest_completion.proofs.AnswerLemmas.{folder_weaker, none_answered}
use Rattle.manifest_completion.proofs.ask.ask_folder_unless.Goals as goal

pub returns-then-stopped : goal.returns-then-stopped
returns-then-stopped g c = none_answered c.args.stopped (g.FS.AbstractFilesystem.allows c.args.fs.now)
    (folder_text c.args.folder) c.of_unasked_folder.result c.if-stopped.true c.of_unasked_folder.ensures.own c.of_unasked_folder.ensures.entries

pub returns : goal.returns
returns g c =
    let allows = g.FS.AbstractFilesystem.allows c.args.fs.now in
    IfOk-weaker c.ask_folder.result _ _ (λ a h. folder_weaker allows (λ path answer. c.args.stopped ≡ false
    → allows path answer) (λ path a p e. p) (folder_text c.args.folder) a
    (subst (λ d. FolderIsAnswered allows d a) c.path.ensures h)) c.ask_folder.ensures
