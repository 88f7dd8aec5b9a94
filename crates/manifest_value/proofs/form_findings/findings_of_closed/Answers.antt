use Rattle.manifest_schema.specs.Prelude.{table_view, spelled}
use Rattle.std.proofs.Common.{◌∙◌, sym}
use Rattle.manifest_value.proofs.FoundLemmas.{closed_rows_found, left_closed}
use Rattle.manifest_value.proofs.form_findings.findings_of_closed.Goals as goal

pub returns : goal.returns
returns g c =
    let rows = g.T.Rowed.rows in
    let ms = table_view c.args.table.now in
    let (by_rows, rest, ascending) = c.in_ok-found.ensures in (
      by_rows ∙ closed_rows_found rows ms c.covers.ensures,
      rest ∙ sym (left_closed rows (spelled rows) ms c.covers.ensures),
    )
