use Rattle.manifest_schema.specs.Prelude.{table_view, without}
use Rattle.std.proofs.Common.{◌≡◌, ◌++◌, suc, map, sym, ap, ◌∙◌, arith, add-one, append_assoc, append-nil, get_or}
use Rattle.manifest_value.specs.FormRows.{many}
use Rattle.manifest_fault.specs.Found.{found}
use Rattle.manifest_value.specs.FoundRows.{findings_at, findings_from}
use Rattle.manifest_value.specs.Sources.{row_view}
use Rattle.manifest_value.specs.Walks.{spellings_view, names_of, all_words, slots_at}
use Rattle.manifest_value.proofs.FormLemmas.{as_many, as_many_slots, at_place, first_of, words_spelled}
use Rattle.manifest_fault.proofs.FindingTrees.{found_and}
use Rattle.manifest_value.proofs.FoundLemmas.{one_found, none_found}
use Rattle.manifest_value.proofs.form_findings.findings_of_rows.Goals as goal

pub bounds-slots-i : goal.bounds-slots-i
bounds-slots-i g c =
    let rows = g.T.Rowed.rows in
    let ms = table_view c.args.table.now in
    let names = c.names-names.result.now in
    let slots = c.as_slice-slots.result.now in
    let n = as_many rows names c.names-names.ensures.named in
    let there : map row_view slots ≡ slots_at (names_of rows) ms = ap (map row_view) c.as_slice-slots.ensures.value
    ∙ c.in_ok-walk.ensures.slots ∙ ap (λ ss. slots_at ss ms) c.names-names.ensures.named in
    let m = as_many_slots row_view rows ms slots there in
    omega (arith, n, m, c.loop-i-test.true, c.loop-i.auto.i-end)

pub row_findings-requires : goal.row_findings-requires
row_findings-requires g c =
    let n = as_many g.T.Rowed.rows c.names-names.result.now c.names-names.ensures.named in
    omega (arith, n, c.loop-i-test.true, c.loop-i.auto.i-end)

pub loop-i-preserved : goal.loop-i-preserved
loop-i-preserved g c =
    let rows = g.T.Rowed.rows in
    let ms = table_view c.args.table.now in
    let names = c.names-names.result.now in
    let slots = c.as_slice-slots.result.now in
    let i = c.loop-i.i in
    let so_far = found c.loop-i.out in
    let there : map row_view slots ≡ slots_at (names_of rows) ms = ap (map row_view) c.as_slice-slots.ensures.value
    ∙ c.in_ok-walk.ensures.slots ∙ ap (λ ss. slots_at ss ms) c.names-names.ensures.named in
    let n = as_many rows names c.names-names.ensures.named in
    let m = as_many_slots row_view rows ms slots there in
    let slot = at_place row_view slots (slots_at (names_of rows) ms) i c.index-slots-i.result there
    (omega (arith, n, m, c.loop-i-test.true, c.loop-i.auto.i-end)) in
    let name = at_place spellings_view names (names_of rows) i _ c.names-names.ensures.named
    (omega (arith, c.loop-i-test.true, c.loop-i.auto.i-end)) in
    let words = spellings_view (get_or names i _) in
    let row = c.in_ok-row_findings.ensures words (first_of _ _) ∙ ap (λ s. findings_at i rows words (row_view s))
    c.index-slots-i.is in
    rw add-one
    (ap (λ x. x ++ findings_from (suc i) rows ms) (found_and _ _ _ c.in_ok-out.ensures ∙ ap (λ x. so_far ++ x) row)
    ∙ append_assoc so_far (findings_at i rows words _) (findings_from (suc i) rows ms)
    ∙ ap (λ x. so_far ++ x) (sym (one_found rows i ms _ _ _ _ name slot)) ∙ c.loop-i.invariant)

pub returns : goal.returns
returns g c =
    let rows = g.T.Rowed.rows in
    let ms = table_view c.args.table.now in
    let so_far = found c.loop-i.out in
    let n = as_many rows c.names-names.result.now c.names-names.ensures.named in
    let end : c.loop-i.i ≡ many rows = omega (arith, n, c.loop-i-test.false, c.loop-i.auto.i-end) in (
      sym (append-nil so_far) ∙ ap (λ x. so_far ++ x) (sym (ap (λ i. findings_from i rows ms) end ∙ none_found rows ms))
          ∙ c.loop-i.invariant,
      c.in_ok-walk.ensures.rest ∙ ap (λ ws. without ws ms) (ap all_words c.names-names.ensures.named
          ∙ words_spelled rows),
      c.in_ok-walk.ensures.in_order,
    )
