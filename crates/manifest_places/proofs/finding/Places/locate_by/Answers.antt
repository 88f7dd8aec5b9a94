use Rattle.std.proofs.Common.{[], sym, ap, subst, ◌∙◌}
use Rattle.manifest_fault.specs.Placed.{placed_among}
use Rattle.manifest_places.specs.Paths.{path_of}
use Rattle.manifest_places.specs.Findings.{AreLocated, paths_below}
use Rattle.manifest_places.proofs.FindingLemmas.{paths_at_top}
use Rattle.manifest_places.proofs.finding.Places.locate_by.Goals as goal

pub returns : goal.returns
returns g c =
    let leads = g.L.LooksAt.leads in
    let found = placed_among c.args.nodes.now in
    let none = subst (AreLocated c.args.self.now []) (sym c.new-all.ensures.items) tt in
    let whole = ap (λ steps. paths_below leads (path_of steps) found) c.new-path.ensures.items
    ∙ paths_at_top leads found in
    subst (λ ps. AreLocated c.args.self.now ps c.push_nodes.new.all.items) whole
    (c.in_ok-push_nodes.ensures.all [] none)
