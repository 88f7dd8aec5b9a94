use Rattle.std.proofs.Common.{◌≡◌, map, subst}
use Rattle.manifest_places.specs.Lines.{position_of, offset_position, OffsetsAscend}
use Rattle.manifest_answers.proofs.PositionLemmas.{positions_made}
use Rattle.manifest_answers.proofs.positions.positions.Goals as goal

pub returns : goal.returns
returns c =
    let all = map position_of c.in-Some.all.items in
    let offsets = c.args.offsets.now in
    let found = rw c.in-Some.is at c.in_ok-all.ensures in
    let ascend = subst (λ t. OffsetsAscend t 0 offsets) c.in-Ok.ensures.ok.0 found.0 in
    let same = subst (λ t. all ≡ map (offset_position t) offsets) c.in-Ok.ensures.ok.0 found.1 in
    positions_made c.args.most c.args.bytes.now offsets all c.bytes_of_positions.result c.in-Ok.ensures.ok.1 ascend same
    (rw c.as_slice.ensures.value at c.bytes_of_positions.ensures)
