use Rattle.std.proofs.Common.{◌<◌, ◌≤◌, length, arith}
use Rattle.std.proofs.lemmas.Bool.Decides.{nat_tests}
use Rattle.manifest_places.proofs.ChangeLemmas.{without_one, without_none}
use Rattle.manifest_places.proofs.changes.item_removed.Goals as goal

pub returns-then-index-len : goal.returns-then-index-len
returns-then-index-len c =
    let le : length c.args.items.now.items ≤ c.args.index = grind (arith, nat_tests) in
    without_none c.args.items.now.items c.args.index le

pub returns : goal.returns
returns c =
    let lt : c.args.index < length c.args.items.now.items = grind (arith, nat_tests) in
    rw c.remove-item.ensures.items (without_one c.args.items.now.items c.args.index lt)
