use Rattle.manifest_schema.specs.Prelude.{IfOk-weaker}
use Rattle.std.proofs.Common.{pos, ap, sym, ◌∙◌}
use Rattle.toml.proofs.Views.{view-Integer}
use Rattle.manifest_answers.specs.Inspected.{nodes_data, node_data}
use Rattle.manifest_answers.proofs.TreeLemmas.{node_within}
use Rattle.manifest_answers.proofs.inspecting.+trees.Goals as goal

pub node_value-returns-in_ok-inside-in-Within : goal.node_value-returns-in_ok-inside-in-Within
node_value-returns-in_ok-inside-in-Within g t c =
    let data_of = g.C.Reported.reported in
    let is = ap (node_data data_of) c.in-Within.is ∙ node_within data_of c.in-Within.step c.in-Within.nodes in
    let inside = c.in_ok-inside-in-Within.ensures ∙ ap (nodes_data data_of) c.deref.ensures.value in
    IfOk-weaker c.triple.result _ _
    (λ v h. h ∙ rw (view-Integer (pos 3), c.in_ok-step-in-Within.ensures, inside) (sym is)) c.triple.ensures
