use Rattle.std.proofs.Common.{◌≡◌, IsTrue, false, refl, arith, add-one, subst}
use Rattle.manifest_value.specs.FormRows.{many, first_good}
use Rattle.manifest_value.proofs.FormLemmas.{as_many, one_good, row_good}
use Rattle.manifest_value.proofs.form.rows_are_well_formed.Goals as goal

pub row_is_well_formed-requires : goal.row_is_well_formed-requires
row_is_well_formed-requires g c =
    let n = as_many g.T.Rowed.rows c.names-i-end.result.now c.names-i-end.ensures.named in
    omega (arith, n, c.loop-i-test.true)

pub returns-then-not-row_is_well_formed : goal.returns-then-not-row_is_well_formed
returns-then-not-row_is_well_formed g c = (
  λ e. absurd (never e),
  λ all. c.if-not-row_is_well_formed.ensures.1 (row_good g.T.Rowed.rows c.loop-i.i (g.T.Rowed.content c.args.x.now)
      all),
)
  where
    never : IsTrue false → ⊥
    never e = cc

pub loop-i-preserved : goal.loop-i-preserved
loop-i-preserved g c =
    rw add-one (one_good g.T.Rowed.rows c.loop-i.i (g.T.Rowed.content c.args.x.now) c.loop-i.invariant
    (c.if-not-row_is_well_formed.ensures.0 refl))

pub returns : goal.returns
returns g c =
    let rows = g.T.Rowed.rows in
    let n = as_many rows c.names-i-end.result.now c.names-i-end.ensures.named in
    let end : c.loop-i.i ≡ many rows = omega (arith, n, c.loop-i-test.false, c.loop-i.auto.i-end) in
    (λ is. subst (λ k. first_good k rows (g.T.Rowed.content c.args.x.now)) end c.loop-i.invariant, λ all. refl)
