-- Lemmas on the members of a table of which some were read.
use Rattle.std.proofs.Common.{◌≡◌, ℕ, ◌<◌, ◌≤◌, List, [], ◌∷◌, ◌++◌, length, String, Global, Less, Greater, nat_cmp, true, string_bytes, refl, ap, ◌∙◌, arith, append_assoc}
use Rattle.std.proofs.lemmas.Cmp.{nat_list_cmp_total}
use Rattle.std.specs.BTreeMap.{insert_entry}
use Rattle.std.specs.Cmp.Lexicographic.{slice_cmp}
use Rattle.std.specs.Ordering.{ordering_reverse}
use Rattle.std.specs.String.{string_cmp}
use Rattle.toml.specs.Data.{Data, depth, Members, no_members, member, members_depth, is_before}
use Rattle.toml.specs.View.{view, members_view}
use Rattle.toml.specs.declared.value.Value.{Value}
use Rattle.toml.proofs.Blanks.{below_from}
use Rattle.toml.proofs.Views.{Entry}
use Rattle.manifest_bytes.specs.Encoded.{text_bytes, member_count, encoded, members_bytes}
use Rattle.manifest_bytes.specs.Held.{FitsText, FitsValue, FitMembers}

-- the entries that were read are the first of some members, and the bytes of the others are left
abbrev pub MembersLeft : Members → List Entry → ℕ → List ℕ → List ℕ → Type 0
MembersLeft ms [] deepest left rest = left ≡ members_bytes ms ++ rest
MembersLeft (member k d ms) (e ∷ es) deepest left rest =
    (string_bytes e.0 ≡ k) × (view e.1 ≡ d) × (depth d ≤ deepest) × MembersLeft ms es deepest left rest
MembersLeft no_members (e ∷ es) deepest left rest = ⊥

-- the next member, and that it is left no more once it is read and put among the others
pub record NextMember (ms : Members) (es : List Entry) (deepest : ℕ) (left rest : List ℕ) : Type 0 where
  pub k : List ℕ
  pub d : Data
  pub after : List ℕ
  pub named : FitsText k
  pub fits : FitsValue d
  pub bytes : left ≡ text_bytes k ++ (encoded d ++ after)
  pub inside : depth d ≤ members_depth ms
  pub above : (l : List ℕ) → is_before l ms ≡ true → slice_cmp nat_cmp l k ≡ Less
  pub last : (key : String Global) (v : Value) → string_bytes key ≡ k →
      insert_entry string_cmp es key v ≡ es ++ (key, v) ∷ []
  pub read : (key : String Global) (v : Value) (new : List ℕ) → string_bytes key ≡ k → depth d ≤ deepest →
      view v ≡ d → new ≡ after → MembersLeft ms (es ++ (key, v) ∷ []) deepest new rest

pub member_next : (ms : Members) (es : List Entry) (deepest : ℕ) (left rest : List ℕ) → FitMembers ms →
    MembersLeft ms es deepest left rest → length es < member_count ms → NextMember ms es deepest left rest
member_next no_members es deepest left rest fits h some = absurd (omega arith)
member_next (member k d ms) [] deepest left rest fits h some = record {
  k = k;
  d = d;
  after = members_bytes ms ++ rest;
  named = fits.0;
  fits = fits.2;
  bytes = h ∙ append_assoc (text_bytes k) (encoded d ++ members_bytes ms) rest
      ∙ ap (λ bs. text_bytes k ++ bs) (append_assoc (encoded d) (members_bytes ms) rest);
  inside = omega arith;
  above = λ l first. below_from l k first;
  last = λ key v named. refl;
  read = λ key v new named low same is. (named, same, low, is);
}
member_next (member m e ms) (w ∷ es) deepest left rest fits h some =
    let next = member_next ms es deepest left rest fits.3 h.3 (omega arith) in
    record {
      k = next.k;
      d = next.d;
      after = next.after;
      named = next.named;
      fits = next.fits;
      bytes = next.bytes;
      inside = omega (arith, next.inside);
      above = λ l first. nat_list_cmp_total.trans l m next.k (below_from l m first) (next.above m fits.1);
      last = λ key v named.
          let above : slice_cmp nat_cmp (string_bytes key) (string_bytes w.0) ≡ Greater =
          rw (h.0, named) (nat_list_cmp_total.antisymm next.k m ∙ ap ordering_reverse (next.above m fits.1)) in
          rw above (ap (λ t. w ∷ t) (next.last key v named));
      read = λ key v new named low same is. (h.0, h.1, h.2, next.read key v new named low same is);
    }

-- where none is left
pub members_read : (ms : Members) (es : List Entry) (deepest : ℕ) (left rest : List ℕ) →
    MembersLeft ms es deepest left rest → member_count ms ≤ length es →
    (members_depth ms ≤ deepest) × ((members_view es ≡ ms) × (left ≡ rest))
members_read no_members [] deepest left rest h none = (omega arith, (refl, h))
members_read no_members (e ∷ es) deepest left rest h none = absurd h
members_read (member k d ms) [] deepest left rest h none = absurd (omega arith)
members_read (member k d ms) (e ∷ es) deepest left rest h none =
    let (deep, (same, end)) = members_read ms es deepest left rest h.3 (omega arith) in
    (omega (arith, h.2), (rw (h.0, h.1, same) refl, end))
