use Rattle.std.proofs.Common.{◌++◌, ap₂, ◌∙◌, map}
use Rattle.std.proofs.lemmas.List.{map-id}
use Rattle.manifest_schema.specs.Prelude.{IfOk-weaker}
use Rattle.manifest_fault.specs.Faults.{step_of}
use Rattle.manifest_fault.specs.Placed.{place_of, placed_among, placed_below}
use Rattle.manifest_fault.proofs.findings.Findings.to_vec.Goals as goal

pub returns : goal.returns
returns g c =
    let all = placed_among c.nodes.result.now in
    let start = ap₂ (λ out p. map place_of out ++ placed_below (map step_of p) all) c.new-2.ensures.items
    c.new.ensures.items in
    IfOk-weaker c.push_nodes.result _ _ (λ v h. h ∙ start ∙ map-id all ∙ c.nodes.ensures) c.push_nodes.ensures.list
