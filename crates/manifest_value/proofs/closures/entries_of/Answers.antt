use Rattle.manifest_schema.specs.Prelude.{FnReturnsAt, keys_of, string_cmp, Value}
use Rattle.std.proofs.Common.{◌≡◌, [], ◌∷◌, ◌++◌, String, Global, string_bytes, sym, ap, ◌∙◌, subst, append_assoc, rules}
use Rattle.std.specs.List.Sorted.{IsStrictlySortedBy}
use Rattle.manifest_value.proofs.CallLemmas.{entries_given-last, entry_refused}
use Rattle.manifest_value.proofs.closures.entries_of.Goals as goal

abbrev Entry : Type 0
Entry = String Global × Value

pub returns-in_err-x-clause-fault : goal.returns-in_err-x-clause-fault
returns-in_err-x-clause-fault g c =
    let l = c.loop-key in
    let e : Entry = (c.in-Some.key.now, c.in-Some.value.now) in
    let left = c.next.new.self in
    let all : c.args.table.now.entries ≡ l.invariant.0 ++ e ∷ left = l.invariant.1 ∙ ap (λ es. l.invariant.0 ++ es)
    c.in-Some.ensures.steps in
    let h = entry_refused (FnReturnsAt g.F.Fn c.args.read.now) c.args.table.now.entries l.invariant.0 e left
    l.all.entries c.in_err-x.field-0.0 all l.invariant.2 (rw c.as_str.ensures.value at c.in_err-x.ensures.fault) in
    search rules

pub loop-key-preserved : goal.loop-key-preserved
loop-key-preserved g c =
    let l = c.loop-key in
    let e : Entry = (c.in-Some.key.now, c.in-Some.value.now) in
    let left = c.next.new.self in
    let all : c.args.table.now.entries ≡ l.invariant.0 ++ e ∷ left = l.invariant.1 ∙ ap (λ es. l.invariant.0 ++ es)
    c.in-Some.ensures.steps in
    let named : string_bytes c.in_ok-name.name ≡ string_bytes e.0 = c.in_ok-name.ensures.ok
    ∙ c.as_str-in-loop-key.ensures.value in
    let sorted = subst (λ es. IsStrictlySortedBy string_cmp (keys_of es)) all c.iter-key-items.ensures.ordered in
    let h = entries_given-last (FnReturnsAt g.F.Fn c.args.read.now) l.invariant.0 e left l.all.entries c.in_ok-name.name
    c.in_ok-x.x sorted l.invariant.2 named c.in_ok-x.ensures.ok in
    (l.invariant.0 ++ e ∷ [], all ∙ sym (append_assoc l.invariant.0 (e ∷ []) left), rw c.in_ok-insert.ensures.entries h)
