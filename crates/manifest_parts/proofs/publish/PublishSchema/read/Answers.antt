use Rattle.std.proofs.Common.{rules, ◌≡◌, false}
use Rattle.toml.specs.declared.value.Value.{the_lemmas}
use Rattle.manifest_schema.specs.Kinds.{is_flag}
use Rattle.manifest_value.specs.Sources.{source_view}
use Rattle.manifest_parts.proofs.publish.PublishSchema.read.Goals as goal

pub returns-in_err-read-in_default-clause-gives : goal.returns-in_err-read-in_default-clause-gives
returns-in_err-read-in_default-clause-gives c =
    let other : is_flag (source_view c.args.source) ≡ false = search (rules, the_lemmas, c.in_default.not-Boolean) in
    rw other (search rules)
