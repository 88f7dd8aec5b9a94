use Rattle.std.proofs.Common.{◌≡◌, IsTrue, map, take}
use Rattle.manifest_schema.specs.Prelude.{written_items}
use Rattle.manifest_written.specs.Written.{list_view, list_ascends}
use Rattle.manifest_value.proofs.writers.list_written.Given as goal

-- the items so far are written
abbrev pub invariant-loop-x : goal.invariant-loop-x
invariant-loop-x g l = record {
  is : list_view l.out.items ≡ written_items g.T.Schema.kind (map g.T.Schema.content (take l.x-index l.items));
  ascend : IsTrue (list_ascends l.out.items);
}
