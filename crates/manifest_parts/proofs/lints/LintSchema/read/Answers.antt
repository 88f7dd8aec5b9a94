use Rattle.std.proofs.Common.{rules, ◌≡◌, true, false}
use Rattle.toml.specs.declared.value.Value.{the_lemmas}
use Rattle.manifest_schema.specs.Kinds.{is_text}
use Rattle.manifest_value.specs.Sources.{source_view}
use Rattle.manifest_parts.proofs.lints.LintSchema.read.Goals as goal

pub returns-in_err-read-in-String-clause-gives : goal.returns-in_err-read-in-String-clause-gives
returns-in_err-read-in-String-clause-gives c =
    let text : is_text (source_view c.args.source) ≡ true = search (rules, the_lemmas) in
    rw text (search rules)

pub returns-in_err-read-in_default-clause-gives : goal.returns-in_err-read-in_default-clause-gives
returns-in_err-read-in_default-clause-gives c =
    let other : is_text (source_view c.args.source) ≡ false = search (rules, the_lemmas, c.in_default.not-String) in
    rw other (search rules)
