use Rattle.std.proofs.Common.{◌≡◌, ◌+◌}
use Rattle.manifest_value.specs.Entries.{entries_content}
use Rattle.manifest_inherit.specs.ForProofs.{shared_by_map}
use Rattle.manifest_inherit.specs.Sizes.{entries_size}
use Rattle.manifest_inherit.proofs.sizes.less_map.Given as goal

-- what is left and all that is inherited are what there was and what the entries to come inherit
abbrev pub invariant-loop-key : goal.invariant-loop-key
invariant-loop-key g l =
    let size = entries_size (g.T.Resolvable.size (shared_by_map l.shared)) in
    l.left + size (entries_content g.T.Resolvable.content l.own.entries) ≡ l.most + size
    (entries_content g.T.Resolvable.content l.key-iterator)
