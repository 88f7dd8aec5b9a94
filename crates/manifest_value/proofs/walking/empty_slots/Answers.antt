use Rattle.std.proofs.Common.{◌≡◌, ap, ◌∙◌, length, map, arith, refl}
use Rattle.std.proofs.Math.ListN.{replicate}
use Rattle.std.proofs.lemmas.List.{length-replicate}
use Rattle.manifest_value.specs.Sources.{row_view}
use Rattle.manifest_value.proofs.WalkLemmas.{blanks-view}
use Rattle.manifest_value.specs.declared.row_slots.RowSlot.{RowSlot}
use Rattle.manifest_value.proofs.walking.empty_slots.Goals as goal

pub returns-clause-views : goal.returns-clause-views
returns-clause-views c =
    let n : c.loop-row._row-index ≡ length c.args.rows.now =
    omega (arith, c.loop-row-test.false, c.loop-row.auto._row-index-end) in
    ap (map row_view) (c.loop-row.invariant ∙ ap (λ k. replicate k RowSlot.Absent) n) ∙ blanks-view row_view
    RowSlot.Absent refl c.args.rows.now

pub returns-clause-many : goal.returns-clause-many
returns-clause-many c =
    let n : c.loop-row._row-index ≡ length c.args.rows.now =
    omega (arith, c.loop-row-test.false, c.loop-row.auto._row-index-end) in
    ap length c.loop-row.invariant ∙ length-replicate c.loop-row._row-index RowSlot.Absent ∙ n
