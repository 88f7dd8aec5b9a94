use Rattle.std.proofs.Common.{arith}
use Rattle.std.proofs.lemmas.Grind.{common_steps}
use Rattle.manifest_bytes.proofs.ValueLemmas.{item_count-view, member_count-view}
use Rattle.manifest_bytes.proofs.values.+bytes.Goals as goal

pub push_items-returns : goal.push_items-returns
push_items-returns t c =
    let count = item_count-view c.args.items.now.items in
    grind (arith, common_steps)

pub push_members-returns : goal.push_members-returns
push_members-returns t c =
    let count = member_count-view c.args.members.now.entries in
    grind (arith, common_steps)
