use Rattle.manifest_schema.specs.Prelude.{member, join, with_last, Text, is_among, without}
use Rattle.std.proofs.Common.{◌≡◌, map, subst, sym, ap, ◌∙◌, true}
use Rattle.toml.proofs.Blanks.{join-none, join-last}
use Rattle.manifest_value.specs.Sources.{members_of, source_view, key_view, row_view, rest_view, entries_view}
use Rattle.manifest_value.specs.Walks.{Ascend, spellings_view, all_words, slots_at, filled_at, is_word_at}
use Rattle.manifest_value.proofs.ReadingLemmas.{ascend_without}
use Rattle.manifest_value.proofs.WalkLemmas.{slots-last, slots-last_none, without-last_named, without-last_other, rest-last, not_before, word_among}
use Rattle.manifest_value.proofs.walking.walk.Goals as goal

pub loop-key-preserved-in-Some-row_of : goal.loop-key-preserved-in-Some-row_of
loop-key-preserved-in-Some-row_of c =
    let ss = map spellings_view c.args.rows.now in
    let words = all_words ss in
    let (done, before, lengths, slots, rest) = c.loop-key.invariant in
    let k : Text = key_view c.in-Some.key in
    let d = source_view c.in-Some.value in
    let i = c.in-Some-row_of.i in
    let left = entries_view c.next.new.self in
    let all : members_of c.args.table ≡ join done (member k d left) = before ∙ ap (join done) c.in-Some.ensures.steps in
    let none = not_before done k d left (subst Ascend all c.entries-key-items.ensures.in_order) in
    let word : is_word_at i ss k ≡ true = subst (λ w. is_word_at i ss w ≡ true) c.as_str.ensures
    c.in-Some-row_of.ensures.2 in (
      with_last done k d,
      all ∙ sym (join-last done k d left),
      c.fill_slot.ensures.many ∙ lengths,
      c.fill_slot.ensures.views ∙ ap (λ w. filled_at i w d (map row_view c.loop-key.slots.items))
          (c.in-Some-row_of.ensures.0 ∙ c.as_str.ensures) ∙ ap (filled_at i k d) slots
          ∙ sym (slots-last i ss k d done c.requires word none),
      rest ∙ sym (without-last_named words k d done (word_among i ss k word)),
    )

pub loop-key-preserved : goal.loop-key-preserved
loop-key-preserved c =
    let ss = map spellings_view c.args.rows.now in
    let words = all_words ss in
    let (done, before, lengths, slots, rest) = c.loop-key.invariant in
    let k : Text = key_view c.in-Some.key in
    let d = source_view c.in-Some.value in
    let left = entries_view c.next.new.self in
    let other = subst (λ w. is_among words w ≡ _) c.as_str.ensures c.in-None-row_of.ensures in (
      with_last done k d,
      before ∙ ap (join done) c.in-Some.ensures.steps ∙ sym (join-last done k d left),
      lengths,
      slots ∙ sym (slots-last_none ss k d done other),
      ap rest_view c.in_ok-push-in-None-row_of.ensures.items ∙ rest-last c.loop-key.rest.items
          (c.in-Some.key, c.in-Some.value)
          ∙ ap (λ m. with_last m k d) rest ∙ sym (without-last_other words k d done other),
    )

pub returns : goal.returns
returns c =
    let ss = map spellings_view c.args.rows.now in
    let words = all_words ss in
    let (done, before, lengths, slots, rest) = c.loop-key.invariant in
    let all : done ≡ members_of c.args.table = sym (before ∙ ap (join done) c.in-None.ensures.steps ∙ join-none done) in
    let whole = rest ∙ ap (without words) all in record {
      slots = slots ∙ ap (slots_at ss) all;
      rest = whole;
      in_order = subst Ascend (sym whole) (ascend_without words (members_of c.args.table)
          c.entries-key-items.ensures.in_order);
    }
