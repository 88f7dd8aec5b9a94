use Rattle.manifest_schema.specs.Prelude.{get_member, table_view, tree_of}
use Rattle.std.proofs.Common.{codes}
use Rattle.manifest_schema.proofs.Values.KindLaws.{tree_sound}
use Rattle.cargo_manifest.proofs.FirstFaults.{first_of_package}
use Rattle.cargo_manifest.proofs.reading.read_headless.Goals as goal

pub returns-in-Err : goal.returns-in-Err
returns-in-Err g c =
    let K = tree_of g.P.Schema.kind in
    let W = tree_of g.W.Schema.kind in
    let ms = table_view c.args.table.now in
    first_of_package K W ms (tree_sound g.met.P.Schema.lawful)
    (tree_sound g.met.W.Schema.lawful) _ c.in_ok-read_form_into.ensures
    (get_member (codes "project") ms) _ c.in-Err.ensures
