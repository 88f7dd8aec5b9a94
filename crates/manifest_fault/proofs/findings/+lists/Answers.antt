use Rattle.std.proofs.Common.{[], ◌∷◌, ◌++◌, map, sym, ap, ◌∙◌}
use Rattle.std.proofs.lemmas.List.{map-append}
use Rattle.manifest_fault.specs.Faults.{step_of, path_of}
use Rattle.manifest_fault.specs.Placed.{place_of, placed_in, placed_among, placed_below}
use Rattle.manifest_fault.proofs.FindingTrees.{within, below-under}
use Rattle.manifest_fault.proofs.findings.+lists.Goals as goal

pub push_node-returns-in_ok-out-in-Within-clause-list : goal.push_node-returns-in_ok-out-in-Within-clause-list
push_node-returns-in_ok-out-in-Within-clause-list g t c =
    let p = path_of c.args.path.now in
    let inside = c.in-Within.nodes in
    let out = map place_of c.args.out.items in
    let deeper = ap (map step_of) c.in_ok-push-in-Within.ensures.items ∙ map-append step_of c.args.path.now.steps.items
    (c.in_ok-clone-in-Within.field-0 ∷ []) ∙ ap (λ s. p ++ s ∷ []) c.in_ok-clone-in-Within.ensures in
    c.in_ok-out-in-Within.ensures.list
    ∙ ap (λ ns. out ++ placed_below (path_of (record { steps = c.push-in-Within.new.self })) (placed_among ns))
    c.deref.ensures.value
    ∙ ap (λ q. out ++ placed_below q (placed_among inside.items)) deeper
    ∙ ap (λ fs. out ++ fs) (below-under p (step_of c.in-Within.step) (placed_among inside.items)
    ∙ ap (placed_below p) (sym (ap placed_in c.in-Within.is ∙ within c.in-Within.step inside)))
