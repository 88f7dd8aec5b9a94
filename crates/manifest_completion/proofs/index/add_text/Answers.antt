use Rattle.std.proofs.Common.{ap, ◌∙◌, not}
use Rattle.manifest_completion.proofs.IndexLemmas.{was_taken, one_taken}
use Rattle.manifest_completion.proofs.index.add_text.Goals as goal

pub returns-clause-new : goal.returns-clause-new
returns-clause-new c = c.in_ok-insert.ensures.added ∙ ap not (was_taken c.args.texts.now c.args.text)

pub returns-clause-added : goal.returns-clause-added
returns-clause-added c = one_taken c.args.texts.now c.insert.new.self c.args.text c.in_ok-insert.ensures.updates
