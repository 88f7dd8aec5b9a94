use Rattle.manifest_schema.specs.Forms.{spelled}
use Rattle.manifest_value.proofs.FormLemmas.{all_good, each_good}
use Rattle.manifest_value.proofs.form.form_is_well_formed.Goals as goal

pub returns : goal.returns
returns g c =
    let rows = g.T.Rowed.rows in
    let x = g.T.Rowed.content c.args.x.now in (
      λ is. all_good rows (spelled rows) x c.covers.ensures (c.rows_are_well_formed.ensures.0 is),
      λ all. c.rows_are_well_formed.ensures.1 (each_good rows (spelled rows) x all),
    )
