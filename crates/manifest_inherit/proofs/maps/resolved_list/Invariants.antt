use Rattle.std.proofs.Common.{◌≡◌, ◌++◌}
use Rattle.manifest_value.specs.Entries.{entries_content}
use Rattle.manifest_inherit.specs.Resolved.{resolved_entries}
use Rattle.manifest_inherit.specs.ForProofs.{shared_by_map}
use Rattle.manifest_inherit.proofs.maps.resolved_list.Given as goal

-- the entries so far, and what the entries become that are to come
abbrev pub invariant-loop-key : goal.invariant-loop-key
invariant-loop-key g l =
    let f = g.T.Resolvable.content in
    let made = resolved_entries (g.T.Resolvable.resolved (shared_by_map l.shared)) in
    entries_content f l.list.items ++ made (entries_content f l.key-iterator) ≡ made (entries_content f l.own.entries)
