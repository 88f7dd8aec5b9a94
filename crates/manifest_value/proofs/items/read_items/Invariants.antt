use Rattle.std.proofs.Common.{map}
use Rattle.toml.specs.View.{items_view}
use Rattle.manifest_value.specs.Sources.{items_left}
use Rattle.manifest_value.proofs.ReadingLemmas.{reads_first_items}
use Rattle.manifest_value.proofs.items.read_items.Given as goal

-- the items so far are read, and the rest is left
abbrev pub invariant-loop-source : goal.invariant-loop-source
invariant-loop-source g l = reads_first_items g.T.Schema.kind (items_view (items_left l.fn.items))
    (map g.T.Schema.content l.all.items) (items_view (items_left l.source-iterator))
