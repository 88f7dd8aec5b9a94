use Rattle.manifest_places.proofs.FindingLemmas.{one_path_more}
use Rattle.manifest_places.proofs.finding.Places.locate_paths.Goals as goal

pub loop-path-preserved : goal.loop-path-preserved
loop-path-preserved c =
    one_path_more c.args.self.now c.args.paths.now c.loop-path.path-index c.path-item.result c.loop-path.all.items
    c.push.new.self.items c.locate.result c.loop-path-test.true c.path-item.is c.in_ok-push.ensures.items
    (rw c.as_slice.ensures.value at c.locate.ensures) c.loop-path.invariant
