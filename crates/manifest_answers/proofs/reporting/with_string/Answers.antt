use Rattle.manifest_answers.proofs.TextLemmas.{string_is_utf8}
use Rattle.manifest_answers.proofs.reporting.with_string.Goals as goal

pub returns-clause-utf8 : goal.returns-clause-utf8
returns-clause-utf8 c = c.with_text.ensures.utf8 (rw c.into_bytes.ensures.value (string_is_utf8 c.args.text))
