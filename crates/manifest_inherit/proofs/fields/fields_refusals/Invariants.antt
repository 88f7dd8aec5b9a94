use Rattle.std.proofs.Common.{◌≡◌, ◌++◌, Some}
use Rattle.cargo_manifest.specs.Tables.{workspace_package_content, package_of}
use Rattle.manifest_inherit.specs.Fields.{lendable}
use Rattle.manifest_inherit.specs.Refused.{fields_refusals}
use Rattle.manifest_inherit.specs.Answers.{refused}
use Rattle.manifest_inherit.specs.ForProofs.{refusals_from}
use Rattle.manifest_inherit.proofs.fields.fields_refusals.Given as goal

-- the refusals of the fields so far, and those of the fields that are to come
abbrev pub invariant-loop-i : goal.invariant-loop-i
invariant-loop-i g l =
    let w = Some (workspace_package_content l.shared) in
    let p = package_of g.M.Schema.kind g.M.Schema.content l.own in
    refused l.list ++ refusals_from l.i lendable w p ≡ fields_refusals lendable w p
