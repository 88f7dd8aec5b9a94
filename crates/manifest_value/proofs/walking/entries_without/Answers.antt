use Rattle.manifest_schema.specs.Prelude.{member, join, Text, is_among, without}
use Rattle.std.proofs.Common.{◌≡◌, map, subst, sym, ap, ◌∙◌, true, false, refl}
use Rattle.toml.proofs.Blanks.{join-none, join-last}
use Rattle.manifest_value.specs.Sources.{source_view, key_view, rest_view, entries_view}
use Rattle.manifest_value.specs.Walks.{spellings_view, all_words, is_word_at}
use Rattle.manifest_value.proofs.WalkLemmas.{rest-last, word_among}
use Rattle.manifest_value.proofs.walking.entries_without.Goals as goal

pub loop-name-preserved-in-Some-row_of : goal.loop-name-preserved-in-Some-row_of
loop-name-preserved-in-Some-row_of c =
    let ss = map spellings_view c.args.rows.now in
    let words = all_words ss in
    let k : Text = key_view c.in-Some.name in
    let d = source_view c.in-Some.value in
    let left = entries_view c.next.new.self in
    let more : entries_view c.loop-name.name-iterator ≡ member k d left = c.in-Some.ensures.steps in
    let i = c.in-Some-row_of.field-0.0 in
    let word : is_word_at i ss k ≡ true = subst (λ w. is_word_at i ss w ≡ true) c.as_str.ensures
    c.in-Some-row_of.ensures.2 in
    let skipped : without words (member k d left) ≡ without words left = rw (word_among i ss k word) refl in
    ap (join (rest_view c.loop-name.others.items)) (sym skipped ∙ sym (ap (without words) more)) ∙ c.loop-name.invariant

pub loop-name-preserved : goal.loop-name-preserved
loop-name-preserved c =
    let ss = map spellings_view c.args.rows.now in
    let words = all_words ss in
    let k : Text = key_view c.in-Some.name in
    let d = source_view c.in-Some.value in
    let left = entries_view c.next.new.self in
    let others = c.loop-name.others.items in
    let more : entries_view c.loop-name.name-iterator ≡ member k d left = c.in-Some.ensures.steps in
    let other : is_among words k ≡ false = subst (λ w. is_among words w ≡ false) c.as_str.ensures
    c.in-None-row_of.ensures in
    let stays : without words (member k d left) ≡ member k d (without words left) = rw other refl in
    ap (λ xs. join (rest_view xs) (without words left)) c.in_ok-push-in-None-row_of.ensures.items
    ∙ ap (λ ms. join ms (without words left)) (rest-last others (c.in-Some.name, c.in-Some.value))
    ∙ join-last (rest_view others) k d (without words left)
    ∙ ap (join (rest_view others)) (sym stays ∙ sym (ap (without words) more)) ∙ c.loop-name.invariant

pub returns : goal.returns
returns c =
    let words = all_words (map spellings_view c.args.rows.now) in
    let end = ap (without words) c.in-None.ensures.steps in
    sym (join-none (rest_view c.loop-name.others.items)) ∙ ap (join (rest_view c.loop-name.others.items)) (sym end)
    ∙ c.loop-name.invariant
