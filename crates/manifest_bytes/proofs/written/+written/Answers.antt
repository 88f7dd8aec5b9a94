use Rattle.std.proofs.Common.{arith}
use Rattle.std.proofs.lemmas.Grind.{common_steps}
use Rattle.manifest_bytes.proofs.ValueLemmas.{item_count-list, member_count-pairs}
use Rattle.manifest_bytes.proofs.written.+written.Goals as goal

pub push_items-returns : goal.push_items-returns
push_items-returns t c =
    let count = item_count-list c.args.items.now in
    grind (arith, common_steps)

pub push_pairs-returns : goal.push_pairs-returns
push_pairs-returns t c =
    let count = member_count-pairs c.args.pairs.now in
    grind (arith, common_steps)
