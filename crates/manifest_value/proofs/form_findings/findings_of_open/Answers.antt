use Rattle.manifest_schema.specs.Prelude.{IfOk-weaker, view, table_view, entry_findings, form_findings}
use Rattle.std.proofs.Common.{◌++◌, ap, ap₂, ◌∙◌, sym}
use Rattle.toml.proofs.Views.{view-Table}
use Rattle.manifest_fault.proofs.FindingTrees.{found_and}
use Rattle.manifest_value.proofs.FoundLemmas.{open_found}
use Rattle.manifest_value.proofs.form_findings.findings_of_open.Goals as goal

pub returns-in_ok-findings_of_rest-in-Table : goal.returns-in_ok-findings_of_rest-in-Table
returns-in_ok-findings_of_rest-in-Table g c =
    let rows = g.T.Rowed.rows in
    let ms = table_view c.in-Table.table in
    let (by_rows, left, ascending) = c.in_ok-found-in-Table.ensures in
    let others = c.in_ok-findings_of_rest-in-Table.ensures ∙ ap (λ ms. entry_findings g.X.Schema.kind.findings ms) left
    ∙ sym (c.requires.of_its_kind ms) in
    let whole = ap₂ (λ a b. a ++ b) by_rows others ∙ open_found rows ms c.requires.ends_with_map
    ∙ ap (form_findings rows) (sym (ap view c.in-Table.is ∙ view-Table c.in-Table.table)) in
    IfOk-weaker c.and.result _ _ (λ f h. found_and _ _ _ h ∙ whole) c.and.ensures
