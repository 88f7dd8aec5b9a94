use Rattle.std.proofs.Common.{ap, ◌∙◌}
use Rattle.manifest_value.specs.Sources.{source_view, row_view}
use Rattle.manifest_value.specs.Walks.{filled}
use Rattle.manifest_value.proofs.WalkLemmas.{filled_at-set}
use Rattle.manifest_value.proofs.walking.fill_slot.Goals as goal

pub returns-clause-views : goal.returns-clause-views
returns-clause-views c =
    let k = c.args.spelling.now in
    let d = source_view c.args.value in
    filled_at-set row_view c.args.i c.args.slots.now.items c.slot_with_value.result c.index.result.now k d
    (c.slot_with_value.ensures ∙ ap (λ s. filled (row_view s) k d) c.index.ensures) c.requires
