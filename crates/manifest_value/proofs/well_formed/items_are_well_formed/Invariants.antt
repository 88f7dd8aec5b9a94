use Rattle.std.proofs.Common.{◌↔◌, map, drop}
use Rattle.manifest_schema.specs.Kinds.{good_items}
use Rattle.manifest_value.proofs.well_formed.items_are_well_formed.Given as goal

-- the items so far are well-formed: all are exactly if the rest are
abbrev pub invariant-loop-x : goal.invariant-loop-x
invariant-loop-x g l =
    good_items g.T.Schema.kind (map g.T.Schema.content l.items) ↔ good_items g.T.Schema.kind
    (map g.T.Schema.content (drop l.x-index l.items))
