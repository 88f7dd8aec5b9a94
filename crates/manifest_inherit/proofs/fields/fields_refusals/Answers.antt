use Rattle.std.proofs.Common.{◌≡◌, ◌++◌, Some, suc, sym, ap, ◌∙◌, arith, add-one, append_assoc, append-nil}
use Rattle.cargo_manifest.specs.Tables.{workspace_package_content, package_of}
use Rattle.manifest_inherit.specs.Fields.{lendable}
use Rattle.manifest_inherit.specs.Answers.{refused}
use Rattle.manifest_inherit.specs.ForProofs.{how_many, refusals_at, refusals_from}
use Rattle.manifest_inherit.proofs.ListLemmas.{refused_and}
use Rattle.manifest_inherit.proofs.FieldLaws.{one_refused, none_left}
use Rattle.manifest_inherit.proofs.fields.fields_refusals.Goals as goal

pub refusals_at-requires : goal.refusals_at-requires
refusals_at-requires g c = omega (arith, c.keys-i-end.ensures, c.loop-i-test.true)

pub loop-i-preserved : goal.loop-i-preserved
loop-i-preserved g c =
    let w = Some (workspace_package_content c.args.shared.now) in
    let p = package_of g.M.Schema.kind g.M.Schema.content c.args.own.now in
    let i = c.loop-i.i in
    let so_far = refused c.loop-i.list in
    let one = one_refused lendable i w p (omega (arith, c.keys-i-end.ensures, c.loop-i-test.true)) in
    rw add-one
    (ap (λ x. x ++ refusals_from (suc i) lendable w p) (refused_and _ _ _ c.in_ok-list.ensures ∙ ap (λ x. so_far ++ x)
    c.in_ok-refusals_at.ensures)
    ∙ append_assoc so_far (refusals_at i lendable w p) (refusals_from (suc i) lendable w p)
    ∙ ap (λ x. so_far ++ x) (sym one) ∙ c.loop-i.invariant)

pub returns : goal.returns
returns g c =
    let w = Some (workspace_package_content c.args.shared.now) in
    let p = package_of g.M.Schema.kind g.M.Schema.content c.args.own.now in
    let so_far = refused c.loop-i.list in
    let end : c.loop-i.i ≡ how_many lendable = omega (
      arith,
      c.keys-i-end.ensures,
      c.loop-i-test.false,
      c.loop-i.auto.i-end,
    ) in
    sym (append-nil so_far) ∙ ap (λ x. so_far ++ x) (sym (ap (λ i. refusals_from i lendable w p) end
    ∙ none_left lendable w p)) ∙ c.loop-i.invariant
