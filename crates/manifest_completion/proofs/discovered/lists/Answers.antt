use Rattle.std.proofs.Common.{◌∙◌, string_bytes}
use Rattle.manifest_completion.proofs.DiscoveredLemmas.{has_text}
use Rattle.manifest_completion.proofs.discovered.lists.Goals as goal

pub returns-in-Ok : goal.returns-in-Ok
returns-in-Ok c = rw c.in-Ok.is (c.contains.ensures ∙ has_text string_bytes c.args.name.now c.in-Ok.names.keys)
