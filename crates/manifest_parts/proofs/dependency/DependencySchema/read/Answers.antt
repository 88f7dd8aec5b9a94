use Rattle.std.proofs.Common.{rules, ◌≡◌, true, false}
use Rattle.manifest_schema.specs.Kinds.{is_text, inherits}
use Rattle.manifest_value.specs.Sources.{source_view}
use Rattle.manifest_parts.proofs.dependency.DependencySchema.read.Goals as goal

pub returns-in_err-read-2-clause-gives : goal.returns-in_err-read-2-clause-gives
returns-in_err-read-2-clause-gives c =
    let no_text : is_text (source_view c.args.source) ≡ false = search rules in
    let inherited : inherits (source_view c.args.source) ≡ true = search rules in
    rw (no_text, inherited) (search rules)

pub returns-in_err-read-3-clause-gives : goal.returns-in_err-read-3-clause-gives
returns-in_err-read-3-clause-gives c =
    let no_text : is_text (source_view c.args.source) ≡ false = search rules in
    let detailed : inherits (source_view c.args.source) ≡ false = search rules in
    rw (no_text, detailed) (search rules)
