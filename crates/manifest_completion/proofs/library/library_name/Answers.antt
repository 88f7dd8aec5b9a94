use Rattle.std.proofs.lemmas.Result.{IfOk-weaker}
use Rattle.std.proofs.Common.{string_bytes}
use Rattle.manifest_completion.proofs.LibraryLemmas.{underscored_is}
use Rattle.manifest_completion.proofs.library.library_name.Goals as goal

pub returns : goal.returns
returns c = IfOk-weaker c.replace.result _ _ (λ s h. underscored_is h.0 c.args.name.now (string_bytes s) h.1)
    c.replace.ensures.ok
