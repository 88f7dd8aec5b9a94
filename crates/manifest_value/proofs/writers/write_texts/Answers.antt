use Rattle.std.proofs.Common.{string_bytes, rules}
use Rattle.manifest_schema.specs.Kinds.{text}
use Rattle.manifest_value.proofs.KindCalls.{list_writes}
use Rattle.manifest_value.proofs.writers.write_texts.Goals as goal

pub returns : goal.returns
returns c = list_writes text string_bytes _ c.write_list.result c.args.texts.now c.write_list.ensures
    (λ x v w. search rules)
