use Rattle.std.proofs.Common.{◌<◌, ◌+◌, length, get_or, drop, arith}
use Rattle.std.proofs.lemmas.List.{drop_more}
use Rattle.manifest_places.proofs.LineLemmas.{none_past_end}
use Rattle.manifest_places.proofs.lines.positions_of.Goals as goal

pub returns-then-offset-text : goal.returns-then-offset-text
returns-then-offset-text c =
    let text = c.args.text.now in
    let offsets = c.args.offsets.now in
    let i = c.loop-offset.offset-index in
    let lt : i < length offsets = omega arith in
    let past : length text < get_or offsets i 0 = omega arith in
    λ ascend. none_past_end text c.loop-offset.at (get_or offsets i 0) (drop (i + 1) offsets) past
    (rw (drop_more offsets i 0 lt) at (c.loop-offset.invariant.4.1 ascend))
