use Rattle.std.proofs.Common.{rules, ap, ◌∙◌, map}
use Rattle.std.proofs.lemmas.List.{take_all}
use Rattle.manifest_schema.specs.Prelude.{written_items}
use Rattle.manifest_written.specs.Written.{list_view, list_ascends}
use Rattle.manifest_written.proofs.WrittenLemmas.{list_ascends_last}
use Rattle.manifest_value.proofs.WritingLemmas.{list_more}
use Rattle.manifest_value.proofs.writers.list_written.Goals as goal

pub loop-x-preserved : goal.loop-x-preserved
loop-x-preserved g c =
    let pushed = c.in_ok-push.ensures.items in
    let ws = c.loop-x.out.items in
    let w = c.in_ok-written.field-0 in
    record {
      is = ap list_view pushed ∙ list_more g.T.Schema.kind g.T.Schema.content c.args.items.now c.loop-x.x-index
          c.x-item.result ws w c.loop-x-test.true c.x-item.is c.loop-x.invariant.is c.in_ok-written.ensures.is;
      ascend = ap list_ascends pushed ∙ list_ascends_last ws w c.loop-x.invariant.ascend c.in_ok-written.ensures.ascend;
    }

pub returns-clause-is : goal.returns-clause-is
returns-clause-is g c =
    c.loop-x.invariant.is ∙ ap (λ xs. written_items g.T.Schema.kind (map g.T.Schema.content xs))
    (take_all c.loop-x.x-index c.args.items.now (search rules))
