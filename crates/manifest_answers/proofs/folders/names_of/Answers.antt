use Rattle.manifest_schema.specs.Prelude.{append_assoc, append-nil, Bor, iter_rest, Text}
use Rattle.std.proofs.Common.{◌≡◌, map, ◌++◌, ◌∷◌, [], List, true, false, ap, sym, ◌∙◌, string_bytes, rules, true≢false}
use Rattle.manifest_answers.specs.Given.{texts, goes_before, AreInOrder, AreNames}
use Rattle.manifest_answers.proofs.GivenLemmas.{names_under, before_least, in_order_before, insert_first}
use Rattle.manifest_answers.proofs.folders.names_of.Goals as goal

pub loop-name-init : goal.loop-name-init
loop-name-init c =
    let nothing : List (Bor Text) = [] in
    let all : c.args.given.now ≡ iter_rest c.into_iter-name-iterator.result.iter = search rules in
    (nothing, all ∙ sym (append-nil (iter_rest c.into_iter-name-iterator.result.iter)), search rules, (tt, tt), tt)

pub returns-in_default-clause-refused : goal.returns-in_default-clause-refused
returns-in_default-clause-refused c = λ h.
    let (done, front, same, are, least) = c.loop-name.invariant in
    let x = c.in-Some.name.now in
    let left = iter_rest c.next.new.self.iter in
    let whole : c.args.given.now ≡ left ++ x ∷ done = front ∙ ap (λ xs. xs ++ done) c.in-Some.ensures.steps
    ∙ append_assoc left (x ∷ []) done in
    let last : AreNames (texts (x ∷ done)) = names_under left (x ∷ done) (rw whole at h) in
    c.in_default.ensures.cases.0 last.0.0

pub returns-then-not-goes_before-clause-refused : goal.returns-then-not-goes_before-clause-refused
returns-then-not-goes_before-clause-refused c = λ h.
    let (done, front, same, are, least) = c.loop-name.invariant in
    let x = c.in-Some.name.now in
    let left = iter_rest c.next.new.self.iter in
    let whole : c.args.given.now ≡ left ++ x ∷ done = front ∙ ap (λ xs. xs ++ done) c.in-Some.ensures.steps
    ∙ append_assoc left (x ∷ []) done in
    let last : AreNames (texts (x ∷ done)) = names_under left (x ∷ done) (rw whole at h) in
    let said : false ≡ goes_before x.now c.loop-name.least = c.if-not-goes_before.ensures
    ∙ ap (λ n. goes_before n c.loop-name.least) c.in-Ok.ensures.cases.0 in
    true≢false (sym (said ∙ before_least c.loop-name.least x.now (texts done) least last.1))

pub loop-name-preserved : goal.loop-name-preserved
loop-name-preserved c =
    let (done, front, same, are, least) = c.loop-name.invariant in
    let x = c.in-Some.name.now in
    let left = iter_rest c.next.new.self.iter in
    let whole : c.args.given.now ≡ left ++ x ∷ done = front ∙ ap (λ xs. xs ++ done) c.in-Some.ensures.steps
    ∙ append_assoc left (x ∷ []) done in
    let named : c.in-Ok.name.now ≡ x.now = c.in-Ok.ensures.cases.0 in
    let before : goes_before x.now c.loop-name.least ≡ true = ap (λ n. goes_before n c.loop-name.least) (sym named)
    ∙ sym c.if-not-goes_before.ensures in
    let ordered : AreInOrder (x.now ∷ texts done) = in_order_before c.loop-name.least x.now (texts done) least before
    are.1 in
    let k = c.in_ok-from_str.field-0 in
    let text : string_bytes k ≡ x.now = c.in_ok-from_str.ensures.ok ∙ named in
    let has = ap (map string_bytes) c.in_ok-insert.ensures.keys ∙ insert_first c.loop-name.names.keys k (texts done)
    same (rw text ordered) ∙ ap (λ t. t ∷ texts done) text in
    (x ∷ done, whole, has, ((c.in-Ok.ensures.cases.1, are.0), ordered), named)
