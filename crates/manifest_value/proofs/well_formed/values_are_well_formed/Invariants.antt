use Rattle.std.proofs.Common.{◌↔◌}
use Rattle.manifest_schema.specs.Kinds.{good_entries}
use Rattle.manifest_value.specs.Entries.{entries_content}
use Rattle.manifest_value.proofs.well_formed.values_are_well_formed.Given as goal

-- the values so far are well-formed: all are exactly if the rest are
abbrev pub invariant-loop-key : goal.invariant-loop-key
invariant-loop-key g l =
    good_entries g.T.Schema.kind (entries_content g.T.Schema.content l.all.entries) ↔ good_entries g.T.Schema.kind
    (entries_content g.T.Schema.content l._key-iterator)
