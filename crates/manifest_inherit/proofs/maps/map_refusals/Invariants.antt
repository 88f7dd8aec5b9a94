use Rattle.std.proofs.Common.{◌≡◌, ◌++◌}
use Rattle.manifest_value.specs.Entries.{entries_content}
use Rattle.manifest_inherit.specs.Refused.{entries_refusals}
use Rattle.manifest_inherit.specs.Answers.{refused}
use Rattle.manifest_inherit.specs.ForProofs.{shared_by_map}
use Rattle.manifest_inherit.proofs.maps.map_refusals.Given as goal

-- the refusals of the entries so far, and those of the entries that are to come
abbrev pub invariant-loop-key : goal.invariant-loop-key
invariant-loop-key g l =
    let reported = entries_refusals (g.T.Resolvable.refusals (shared_by_map l.shared)) in
    refused l.list ++ reported (entries_content g.T.Resolvable.content l.key-iterator) ≡ reported
    (entries_content g.T.Resolvable.content l.own.entries)
