use Rattle.manifest_schema.specs.Prelude.{keys_of, string_cmp}
use Rattle.std.proofs.Common.{◌≡◌, [], ◌∷◌, ◌++◌, String, Global, string_bytes, sym, ap, ◌∙◌, subst, append_assoc, append-nil}
use Rattle.std.specs.List.Sorted.{IsStrictlySortedBy}
use Rattle.manifest_schema.specs.Prelude.{written_entries}
use Rattle.manifest_written.specs.Written.{pairs_ascend}
use Rattle.manifest_written.proofs.WrittenLemmas.{Pair, IsAbove, pairs_ascend_last}
use Rattle.manifest_value.specs.Entries.{entries_content}
use Rattle.manifest_value.proofs.WritingLemmas.{AreOf, entries_last, next_above, view_of_entries}
use Rattle.manifest_value.proofs.maps.map_written.Goals as goal

pub loop-key-preserved : goal.loop-key-preserved
loop-key-preserved g c =
    let K = g.T.Schema.kind in
    let f = g.T.Schema.content in
    let l = c.loop-key in
    let done = l.invariant.0 in
    let e : String Global × g.row.T.Denot = (c.in-Some.key.now, c.in-Some.x.now) in
    let left = c.next.new.self in
    let all : c.args.map.now.entries ≡ done ++ e ∷ left = l.invariant.1 ∙ ap (λ es. done ++ es) c.in-Some.ensures.steps in
    let p : Pair = (c.as_str.result, c.in_ok-written.field-0) in
    let named : p.0.now ≡ string_bytes e.0 = c.as_str.ensures.value in
    let sorted = subst (λ es. IsStrictlySortedBy string_cmp (keys_of es)) all c.iter-key-items.ensures.ordered in
    let above = next_above K f l.out.items done e left l.invariant.2 sorted in
    let pushed = c.in_ok-push.ensures.items in (
      done ++ e ∷ [],
      all ∙ sym (append_assoc done (e ∷ []) left),
      subst (λ ps. AreOf K f ps (done ++ e ∷ [])) (sym pushed)
          (entries_last K f l.out.items done p e l.invariant.2 named c.in_ok-written.ensures.is),
      ap pairs_ascend pushed ∙ pairs_ascend_last l.out.items p l.invariant.3 c.in_ok-written.ensures.ascend
          (subst (λ k. IsAbove k l.out.items) (sym named) above),
    )

pub returns-clause-is : goal.returns-clause-is
returns-clause-is g c =
    let K = g.T.Schema.kind in
    let f = g.T.Schema.content in
    let done = c.loop-key.invariant.0 in
    let all : c.args.map.now.entries ≡ done = c.loop-key.invariant.1 ∙ ap (λ es. done ++ es) c.in-None.ensures.steps.0
    ∙ append-nil done in
    view_of_entries K f c.loop-key.out.items done c.loop-key.invariant.2
    ∙ ap (λ es. written_entries K (entries_content f es)) (sym all)
