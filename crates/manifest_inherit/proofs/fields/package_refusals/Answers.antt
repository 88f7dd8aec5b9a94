use Rattle.std.proofs.Common.{◌∙◌}
use Rattle.manifest_schema.specs.Prelude.{IfOk-weaker}
use Rattle.cargo_manifest.specs.Tables.{package_of, workspace_package_content}
use Rattle.manifest_inherit.proofs.FieldLaws.{nothing_listed}
use Rattle.manifest_inherit.proofs.fields.package_refusals.Goals as goal

pub returns-in-None : goal.returns-in-None
returns-in-None g c =
    let p = package_of g.M.Schema.kind g.M.Schema.content c.args.own.now in
    let w = workspace_package_content c.default-nothing.result in
    rw (c.in-None.is) (IfOk-weaker c.fields_refusals-answer.result _ _ (λ v h. h
    ∙ nothing_listed w c.default-nothing.ensures p) c.fields_refusals-answer.ensures)
