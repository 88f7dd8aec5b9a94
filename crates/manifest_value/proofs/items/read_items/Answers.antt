use Rattle.manifest_schema.specs.Prelude.{Data, Items, items_view, index, first_found, found_under, length-map}
use Rattle.std.proofs.Common.{◌≡◌, length, map, ap, subst, sym, ◌∙◌, rules}
use Rattle.manifest_value.specs.Sources.{source_view, items_left}
use Rattle.manifest_fault.specs.Faults.{FaultIn}
use Rattle.manifest_value.proofs.FirstLemmas.{first_item}
use Rattle.manifest_value.proofs.ReadingLemmas.{reads_first_items, items_more, no_item_left}
use Rattle.manifest_value.proofs.items.read_items.Goals as goal

pub loop-source-preserved : goal.loop-source-preserved
loop-source-preserved g c =
    let K = g.T.Schema.kind in
    let f = g.T.Schema.content in
    let ds : Items = items_view (items_left c.args.items) in
    let rest : Items = items_view (items_left c.next.new.self) in
    let d : Data = source_view c.in-Some.source in
    let left = subst (reads_first_items K ds (map f c.loop-source.all.items)) (ap items_view c.in-Some.ensures.steps)
    c.loop-source.invariant in
    subst (λ xs. reads_first_items K ds (map f xs) rest) (sym c.in_ok-push-in-Ok.ensures.items)
    (items_more K f ds c.loop-source.all.items c.in-Ok.x d rest left c.in-Ok.ensures)

pub returns : goal.returns
returns g c =
    let K = g.T.Schema.kind in
    let ds : Items = items_view (items_left c.args.items) in
    let xs = map g.T.Schema.content c.loop-source.all.items in
    no_item_left K ds xs (subst (reads_first_items K ds xs) (ap items_view c.in-None.ensures.steps.0)
    c.loop-source.invariant)

pub returns-in-Err : goal.returns-in-Err
returns-in-Err g c =
    let K = g.T.Schema.kind in
    let f = g.T.Schema.content in
    let xs = c.loop-source.all.items in
    let ds : Items = items_view (items_left c.args.items) in
    let rest : Items = items_view (items_left c.next.new.self) in
    let d : Data = source_view c.in-Some.source in
    let i = c.len.result in
    let many : length xs ≡ i = search rules in
    let left = subst (reads_first_items K ds (map f xs)) (ap items_view c.in-Some.ensures.steps)
    c.loop-source.invariant in
    let at_place = sym (length-map xs f ∙ many) in
    let fault = c.in-Err.fault in
    first_item K g.met.T.Schema.lawful ds (map f xs) d rest fault left
    (subst (λ n. FaultIn (first_found (found_under (index n) (K.findings d))) fault) at_place c.in-Err.ensures)
