use Rattle.manifest_value.specs.FormRows.{first_good}
use Rattle.manifest_value.proofs.form.rows_are_well_formed.Given as goal

-- the rows so far are well-formed
abbrev pub invariant-loop-i : goal.invariant-loop-i
invariant-loop-i g l = first_good l.i g.T.Rowed.rows (g.T.Rowed.content l.x)
