use Rattle.std.proofs.Common.{ap, ◌∙◌}
use Rattle.manifest_value.specs.Entries.{entries_content}
use Rattle.manifest_inherit.specs.ForProofs.{shared_by_map}
use Rattle.manifest_inherit.proofs.EntryLemmas.{ascend_as}
use Rattle.manifest_inherit.proofs.maps.resolved_map.Goals as goal

pub map_of_list-requires : goal.map_of_list-requires
map_of_list-requires g c =
    ascend_as (g.T.Resolvable.resolved (shared_by_map c.args.shared.now)) g.T.Resolvable.content c.in_ok-list.list.items
    c.args.own.now.entries c.in_ok-list.ensures
    c.len-in_order.ensures.ordered

pub returns : goal.returns
returns g c =
    ap (entries_content g.T.Resolvable.content) c.in_ok-map_of_list.ensures ∙ c.in_ok-list.ensures
