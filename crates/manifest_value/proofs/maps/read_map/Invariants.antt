use Rattle.manifest_value.specs.Entries.{entries_content, reads_first}
use Rattle.manifest_value.specs.Sources.{entries_view}
use Rattle.manifest_value.proofs.maps.read_map.Given as goal

-- the entries so far are read, and the rest is left
abbrev pub invariant-loop-key : goal.invariant-loop-key
invariant-loop-key g l = reads_first g.T.Schema.kind (entries_view l.fn.entries) (entries_content g.T.Schema.content
    l.map.entries) (entries_view l.key-iterator)
