use Rattle.std.proofs.Common.{◌<◌, ◌≤◌, length, arith}
use Rattle.std.proofs.lemmas.Bool.Decides.{nat_tests}
use Rattle.manifest_places.proofs.ChangeLemmas.{with_one, with_none}
use Rattle.manifest_places.proofs.changes.item_inserted.Goals as goal

pub returns-then-index-len : goal.returns-then-index-len
returns-then-index-len c =
    let lt : length c.args.items.now.items < c.args.index = grind (arith, nat_tests) in
    with_none c.args.items.now.items c.args.index c.args.value lt

pub returns : goal.returns
returns c =
    let le : c.args.index ≤ length c.args.items.now.items = grind (arith, nat_tests) in
    rw c.in_ok-insert.ensures.items (with_one c.args.items.now.items c.args.index c.args.value le)
