use Rattle.manifest_schema.specs.Prelude.{items_depth, members_depth, items_view, members_view}
use Rattle.std.proofs.Common.{◌≡◌, min, max, drop}
use Rattle.cargo_manifest.proofs.nesting.+depth.Given as goal

-- the deepest so far, and what is left
abbrev pub invariant-depth-loop-key : goal.invariant-depth-loop-key
invariant-depth-loop-key l =
    max l.deepest (min l.limit (members_depth (members_view l._key-iterator)))
    ≡ min l.limit (members_depth (members_view l.table.entries))

abbrev pub invariant-items_depth-loop-item : goal.invariant-items_depth-loop-item
invariant-items_depth-loop-item l =
    max l.deepest (min l.limit (items_depth (items_view (drop l.item-index l.item-items))))
    ≡ min l.limit (items_depth (items_view l.item-items))
