use Rattle.manifest_completion.proofs.AskLemmas.{none_ascend}
use Rattle.manifest_completion.proofs.ask.ask_root_if.Goals as goal

pub returns-else-asks : goal.returns-else-asks
returns-else-asks g c = (none_ascend, λ e. cc (e, c.if-asks.false))
