use Rattle.manifest_schema.specs.Prelude.{without, spelled}
use Rattle.std.proofs.Common.{◌∙◌, ap, sym}
use Rattle.manifest_value.specs.Sources.{rest_view}
use Rattle.manifest_value.specs.Walks.{all_words}
use Rattle.manifest_value.proofs.FormLemmas.{words_spelled}
use Rattle.manifest_value.proofs.FoundLemmas.{left_closed}
use Rattle.manifest_value.proofs.form_findings.entries_left_over.Goals as goal

pub returns : goal.returns
returns g c =
    let rows = g.T.Rowed.rows in
    let ms = rest_view c.args.entries.items in
    c.in_ok-left.ensures ∙ ap (λ ws. without ws ms) (ap all_words c.names.ensures.named ∙ words_spelled rows)
    ∙ sym (left_closed rows (spelled rows) ms c.covers.ensures)
