use Rattle.manifest_schema.specs.Prelude.{FnReturnsAt, keys_of, string_cmp}
use Rattle.std.proofs.Common.{◌≡◌, [], ◌∷◌, ◌++◌, String, Global, string_bytes, sym, ap, ◌∙◌, subst, append_assoc}
use Rattle.std.specs.List.Sorted.{IsStrictlySortedBy}
use Rattle.manifest_value.proofs.CallLemmas.{entries_given-last}
use Rattle.manifest_value.proofs.writers.entries_by.Goals as goal

pub loop-key-preserved : goal.loop-key-preserved
loop-key-preserved g c =
    let l = c.loop-key in
    let e : String Global × g.row.T.Denot = (c.in-Some.key.now, c.in-Some.x.now) in
    let left = c.next.new.self in
    let all : c.args.map.now.entries ≡ l.invariant.0 ++ e ∷ left = l.invariant.1 ∙ ap (λ es. l.invariant.0 ++ es)
    c.in-Some.ensures.steps in
    let named : string_bytes c.in_ok-name.name ≡ string_bytes e.0 = c.in_ok-name.ensures.ok ∙ c.as_str.ensures.value in
    let sorted = subst (λ es. IsStrictlySortedBy string_cmp (keys_of es)) all c.iter-key-items.ensures.ordered in
    let h = entries_given-last (FnReturnsAt g.F.Fn c.args.write.now) l.invariant.0 e left l.all.entries
    c.in_ok-name.name c.in_ok-value.value sorted l.invariant.2 named c.in_ok-value.ensures in
    (l.invariant.0 ++ e ∷ [], all ∙ sym (append_assoc l.invariant.0 (e ∷ []) left), rw c.in_ok-insert.ensures.entries h)
