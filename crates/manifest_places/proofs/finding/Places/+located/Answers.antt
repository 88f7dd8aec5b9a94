use Rattle.std.proofs.Common.{◌∷◌, [], ◌++◌, map, take, ap, subst, ◌∙◌}
use Rattle.std.proofs.lemmas.List.{map-append}
use Rattle.manifest_fault.specs.Faults.{step_of}
use Rattle.manifest_fault.specs.Placed.{placed_among}
use Rattle.manifest_places.specs.Paths.{path_of}
use Rattle.manifest_places.specs.Findings.{AreLocated, paths_below}
use Rattle.manifest_places.proofs.FindingLemmas.{one_more, more_within, more_nodes}
use Rattle.manifest_places.proofs.finding.Places.+located.Goals as goal

pub push_node-returns-in_ok-push-in-Here-clause-all :
    goal.push_node-returns-in_ok-push-in-Here-clause-all
push_node-returns-in_ok-push-in-Here-clause-all g t c before all =
    one_more g.L.LooksAt.leads c.args.self.now before c.args.all.now.items c.push.new.self.items
    c.in_ok-located-in-Here.located (path_of c.args.path.now.items) c.args.node.now c.in-Here.found c.in-Here.is
    c.in_ok-push-in-Here.ensures.items c.in_ok-located-in-Here.ensures.located all

pub push_node-returns-in_ok-push_nodes-in-Within-clause-all :
    goal.push_node-returns-in_ok-push_nodes-in-Within-clause-all
push_node-returns-in_ok-push_nodes-in-Within-clause-all g t c before all =
    let leads = g.L.LooksAt.leads in
    let deeper = ap (map step_of) c.in_ok-push-in-Within.ensures.items
    ∙ map-append step_of c.args.path.now.items (c.in_ok-copy_of-in-Within.field-0 ∷ [])
    ∙ ap (λ s. path_of c.args.path.now.items ++ s ∷ []) c.in_ok-copy_of-in-Within.ensures in
    more_within leads c.args.self.now before c.push_nodes.new.all.items (path_of c.args.path.now.items)
    (path_of c.push-in-Within.new.self.items) c.args.node.now c.in-Within.step c.in-Within.nodes c.in-Within.is
    deeper
    (subst
    (λ ns. AreLocated c.args.self.now (before ++ paths_below leads (path_of c.push-in-Within.new.self.items) (placed_among ns)) c.push_nodes.new.all.items)
    c.deref.ensures.value (c.in_ok-push_nodes-in-Within.ensures.all before all))

pub push_nodes-loop-node-preserved : goal.push_nodes-loop-node-preserved
push_nodes-loop-node-preserved g t c =
    let leads = g.L.LooksAt.leads in
    let ns = c.args.nodes.now in
    let i = c.loop-node.node-index in
    let p = path_of c.args.path.now.items in
    let so_far = paths_below leads p (placed_among (take i ns)) in
    record {
      all = λ before all. more_nodes leads c.args.self.now before c.push_node.new.all.items p
          (path_of c.loop-node.path.items) ns i c.node-item.result c.loop-node-test.true c.node-item.is
          c.loop-node.invariant.path
          (c.in_ok-push_node.ensures.all (before ++ so_far) (c.loop-node.invariant.all before all));
      path = c.in_ok-push_node.ensures.path ∙ c.loop-node.invariant.path;
    }
