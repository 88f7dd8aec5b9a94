use Rattle.manifest_schema.specs.Prelude.{IfOk-weaker, view, is_text, text, dependency_table}
use Rattle.std.proofs.Common.{ap, sym, ◌∙◌, ◌≡◌, true}
use Rattle.manifest_schema.specs.Kinds.{split_findings}
use Rattle.manifest_parts.proofs.dependency.DependencySchema.findings.Goals as goal

pub returns-then-is_text : goal.returns-then-is_text
returns-then-is_text c =
    let d = view c.args.value.now in
    let test : is_text d ≡ true = sym c.if-is_text.ensures in
    IfOk-weaker c.findings.result _ _ (λ f h. h
    ∙ sym (ap (λ b. split_findings text.findings dependency_table.findings b d) test)) c.findings.ensures
