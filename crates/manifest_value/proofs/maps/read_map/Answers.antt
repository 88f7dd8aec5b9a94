use Rattle.manifest_schema.specs.Prelude.{Data, Members, member, Text}
use Rattle.std.proofs.Common.{◌++◌, ◌∷◌, [], refl, subst, sym, ◌∙◌, String, Global}
use Rattle.manifest_value.specs.Entries.{entries_content, reads_first}
use Rattle.manifest_value.specs.Sources.{source_view, key_view, entries_view}
use Rattle.manifest_value.proofs.EntryLemmas.{insert_last}
use Rattle.manifest_value.proofs.FirstLemmas.{first_entry}
use Rattle.manifest_value.proofs.ReadingLemmas.{first_ascend, none_left, reads_more}
use Rattle.manifest_value.proofs.maps.read_map.Goals as goal

pub loop-key-preserved : goal.loop-key-preserved
loop-key-preserved g c =
    let K = g.T.Schema.kind in
    let f = g.T.Schema.content in
    let ms : Members = entries_view c.args.entries in
    let rest : Members = entries_view c.next.new.self in
    let d : Data = source_view c.in-Some.source in
    let es = c.loop-key.map.entries in
    let e : String Global × g.row.T.Denot = (c.in-Ok.name, c.in-Ok.x) in
    let left = subst (reads_first K ms (entries_content f es)) c.in-Some.ensures.steps c.loop-key.invariant in
    let named = subst (λ k. reads_first K ms (entries_content f es) (member k d rest)) (sym c.in-Ok.ensures.0) left in
    let more = reads_more K f ms es e.0 e.1 d rest named c.in-Ok.ensures.1 in
    let last = insert_last es es e [] e.0 e.1 refl refl (first_ascend K f ms rest (es ++ e ∷ []) c.requires more) in
    subst (λ all. reads_first K ms (entries_content f all) rest) (sym (c.in_ok-insert-in-Ok.ensures.entries ∙ last)) more

pub returns-in-Err : goal.returns-in-Err
returns-in-Err g c =
    let K = g.T.Schema.kind in
    let ms : Members = entries_view c.args.entries in
    let k : Text = key_view c.in-Some.key in
    let d : Data = source_view c.in-Some.source in
    let es = entries_content g.T.Schema.content c.loop-key.map.entries in
    let left = subst (reads_first K ms es) c.in-Some.ensures.steps c.loop-key.invariant in
    first_entry K g.met.T.Schema.lawful ms es k d (entries_view c.next.new.self) c.in-Err.fault left c.in-Err.ensures

pub returns : goal.returns
returns g c =
    let K = g.T.Schema.kind in
    let ms = entries_view c.args.entries in
    let es = entries_content g.T.Schema.content c.loop-key.map.entries in
    none_left K ms es (subst (reads_first K ms es) c.in-None.ensures.steps c.loop-key.invariant)
