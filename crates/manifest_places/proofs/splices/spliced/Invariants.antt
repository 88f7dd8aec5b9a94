use Rattle.std.proofs.Common.{◌≡◌, ◌↔◌, ◌++◌, drop, map, string_bytes}
use Rattle.manifest_places.specs.Splices.{splice_of, spliced, Ascend}
use Rattle.manifest_places.proofs.splices.spliced.Given as goal

abbrev pub invariant-loop-splice : goal.invariant-loop-splice
invariant-loop-splice l =
    (string_bytes l.new ++ spliced l.text l.at (map splice_of (drop l.splice-index l.splices))
    ≡ spliced l.text 0 (map splice_of l.splices))
    × (Ascend l.text l.at (map splice_of (drop l.splice-index l.splices)) ↔ Ascend l.text 0 (map splice_of l.splices))
