-- A form satisfies the laws, where its rows do and all its spellings differ.
use Rattle.manifest_schema.specs.Prelude.{and_parts, cases_Bool, not-true, Data, table, Members, no_members, get_member, same_key, is_sorted, Text, Path, key, Spellings, only, both, first, Slot, absent, one, clash, slot, slot_of_two, at, is_among, without, has_entry, Need, Fields, gets, Rows, no_more, others, ◌⨾◌, spell, spelled, differ, distinct, is_closed, fits_beside, written_rows, holds_beside, good_beside, good_rows, form, findings_beside, row_findings, left_beside, left_over, form_findings, from_step, ends_here, left_out, left_out_members, Finding, unused_keys, unused_of, found_paths, AllDiverge, Decided, but_unused, AlikeBut, FindsSoundly, IsSound, IsSoundNeed, AreSound, IsBuilt, slot_findings, slot_key, IsSlotSorted, UnusedIfNoRow}
use Rattle.std.proofs.Common.{◌≡◌, ◌↔◌, true, false, not, ◌⊎◌, inl, inr, List, [], ◌∷◌, ◌++◌, Option, Some, None, IsTrue, refl, sym, ap, ap₂, ◌∙◌, subst, true≢false}
use Rattle.manifest_schema.specs.Needs
use Rattle.manifest_schema.specs.Forms
use Rattle.manifest_schema.specs.Forms.{reads_form}
use Rattle.manifest_schema.proofs.Tables.TableLaws.{same_key-self, same_key-true, same_key-false}
use Rattle.manifest_schema.proofs.Forms.RowsWritten.{among_here, among_there, later_among, entries_none_named, writes_each_row}
use Rattle.manifest_schema.proofs.Tables.LeftOutLaws.{unused_at, at-under, at-other, at_first, at_second, Inner, inner_append, inner_under, inner_keys, Stays, stays_append, stays_under, named_not_found, key_found, left_value, get-left, without-left, all_gone, entry_found, entry_beside, kept_beside, InOrder, in_order, order_beside, value_sorted}
use Rattle.manifest_schema.proofs.Findings.Faultless.{no_nil, both_none, keys_none, but-append, but-keys, but-bare}
use Rattle.manifest_schema.proofs.Findings.Diverging.{DivergingBy, none_diverging, weaker_diverging, both_diverging, begin_weaker, KeyOf, key_weaker, key_apart, entries_diverging, keys_diverging}
use Rattle.manifest_schema.proofs.Values.KindLaws.{same, none_beside, entries_single, entries_decided, entries_well, entries_back, entries_tidy, entries_inner}

pub both_ways : {P Q R T : Type 0} → P ↔ Q → R ↔ T → (P × R) ↔ (Q × T)
both_ways a b = (λ h. (a.0 h.0, b.0 h.1), λ h. (a.1 h.0, b.1 h.1))

-- SPELLINGS
abbrev pub HasSpelling : Spellings → Text → Type 0
HasSpelling (only l) k = l ≡ k
HasSpelling (both l m) k = (l ≡ k) ⊎ (m ≡ k)

pub spelling_among : (names : Spellings) (ks : List Text) (k : Text) → HasSpelling names k
    → is_among (spell names ks) k ≡ true
spelling_among (only l) ks k h = rw (← h) (among_here l ks)
spelling_among (both l m) ks k h = elim h [
  | inl e ↦ rw (← e) (among_here l (m ∷ ks))
  | inr e ↦ rw (← e)
      (among_there l (m ∷ ks) m (among_here m ks))
]

among_cases : (l : Text) (ks : List Text) (k : Text) → is_among (l ∷ ks) k ≡ true → (l ≡ k) ⊎ (is_among ks k ≡ true)
among_cases l ks k h = elim (cases_Bool (same_key l k)) [ inl e ↦ inl (same_key-true l k e) | inr e ↦ inr (rw e at h) ]

spelling_cases : (names : Spellings) (ks : List Text) (k : Text) → is_among (spell names ks) k ≡ true
    → HasSpelling names k ⊎ (is_among ks k ≡ true)
spelling_cases (only l) ks k h = among_cases l ks k h
spelling_cases (both l m) ks k h = elim (among_cases l (m ∷ ks) k h) [
  | inl e ↦ inl (inl e)
  | inr h ↦ elim
      (among_cases m ks k h) [ inl e ↦ inl (inr e) | inr h ↦ inr h ]
]

-- the keys that the spellings of a row differ from have none of them
differ_from : (names : Spellings) (ks : List Text) (k : Text) → differ names ks ≡ true → HasSpelling names k
    → is_among ks k ≡ true → ⊥
differ_from (only l) ks k d e h = true≢false (sym h ∙ rw (← e) (not-true _ d))
differ_from (both l m) ks k d e h =
    let (a, b) = and_parts (not (is_among (m ∷ ks) l)) (not (is_among ks m)) d in
    elim e [
      | inl e ↦ true≢false (sym (among_there m ks k h) ∙ rw (← e) (not-true _ a))
      | inr e ↦ true≢false (sym h
          ∙ rw (← e) (not-true _ b))
    ]

-- SLOTS
abbrev pub OfOne : (Text → Data → Type 0) → Slot → Type 0
OfOne P (one k d) = P k d
OfOne P _ = Unit {0}

-- the value of a slot is that of an entry under a spelling
pub slot_of : (names : Spellings) (ms : Members) → OfOne (λ k d. HasSpelling names k × has_entry k d ms) (at names ms)
slot_of (only k) ms = by_one (get_member k ms) refl
  where
    by_one : (o : Option Data) → get_member k ms ≡ o → OfOne (λ j d. (k ≡ j) × has_entry j d ms) (slot k o)
    by_one None e = tt
    by_one (Some d) e = (refl, entry_found k d ms e)
slot_of (both k l) ms = by_two (get_member k ms) (get_member l ms) refl refl
  where
    by_two : (o u : Option Data) → get_member k ms ≡ o → get_member l ms ≡ u → OfOne (λ j d. ((k ≡ j) ⊎ (l ≡ j))
        × has_entry j d ms) (slot_of_two k l o u)
    by_two (Some d) (Some e) f g = tt
    by_two (Some d) None f g = (inl refl, entry_found k d ms f)
    by_two None None f g = tt
    by_two None (Some e) f g = (inr refl, entry_found l e ms g)

abbrev slot_left : List Path → Slot → Slot
slot_left ps (one k d) = one k (left_out (from_step (key k) ps) d)
slot_left ps s = s

-- where no path ends at a spelling, the slot keeps its value, without what the paths leave out of it
at-left : (names : Spellings) (ps : List Path) (ms : Members) → ((k : Text) → HasSpelling names k
    → ends_here (from_step (key k) ps) ≡ false) → at names (left_out_members ps ms) ≡ slot_left ps (at names ms)
at-left (only k) ps ms h = rw (get-left ps k ms) (by_one (get_member k ms))
  where
    by_one : (o : Option Data) → slot k (left_value (from_step (key k) ps) o) ≡ slot_left ps (slot k o)
    by_one None = refl
    by_one (Some d) = rw (h k refl)
at-left (both k l) ps ms h = rw (get-left ps k ms, get-left ps l ms) (by_two (get_member k ms) (get_member l ms))
  where
    by_two : (o u : Option Data) → slot_of_two k l (left_value (from_step (key k) ps) o)
        (left_value (from_step (key l) ps) u) ≡ slot_left ps (slot_of_two k l o u)
    by_two (Some d) (Some e) = rw (h k (inl refl), h l (inr refl))
    by_two (Some d) None = rw (h k (inl refl))
    by_two None None = refl
    by_two None (Some e) = rw (h l (inr refl))

module _ {C : Type 0} (n : Needs.Need C) (T : FindsSoundly n) (names : Spellings) where
  slot_inner : (s : Slot) → Inner (n.findings names s) × ((k : Text) → Stays (key k) (n.findings names s))
  slot_inner s = let (a, b) = by_slot s in (
    ap ends_here (T.found names s)
        ∙ a,
    λ k. ap (λ ps. ends_here (from_step (key k) ps)) (T.found names s) ∙ b k,
  )
    where
      by_slot : (s : Slot) → Inner (slot_findings T.value s) × ((k : Text) → Stays (key k) (slot_findings T.value s))
      by_slot (one j d) = (inner_under (key j) (T.value d), λ k. stays_under (key k) (key j) (T.value d) (T.inside d))
      by_slot _ = (refl, λ k. refl)

  unmoved : (s : Slot) → unused_of (slot_findings T.value s) ≡ []
      → AlikeBut (n.meets s) (n.findings names s) (n.meets s) (n.findings names s)
  unmoved s e = (λ x. same, sym (but-bare (n.findings names s) (T.found names s ∙ e)))

  module _ (ms : Members) where
    abbrev InTable : Slot → Type 0
    InTable = OfOne (λ k d. HasSpelling names k × has_entry k d ms)

    slot_vanish : (s : Slot) (k : Text) → InTable s → ((d : Data) → has_entry k d ms → HasSpelling names k → ⊥)
        → unused_at (key k) (n.findings names s) ≡ []
    slot_vanish s k h none = ap (from_step (key k)) (T.found names s) ∙ by_slot s h
      where
        by_slot : (s : Slot) → InTable s → unused_at (key k) (slot_findings T.value s) ≡ []
        by_slot (one j d) h = at-other (key k) (key j) (T.value d)
            (same_key-false k j (λ e. none d (subst (λ l. has_entry l d ms) (sym e) h.1) (subst (HasSpelling names)
            (sym e) h.0)))
        by_slot _ h = refl

    slot_tidy : (ps : List Path) (s : Slot) → InTable s → InOrder ms
        → ((k : Text) → HasSpelling names k → from_step (key k) ps ≡ unused_at (key k) (n.findings names s))
        → let r = slot_left ps s in AlikeBut (n.meets r) (n.findings names r) (n.meets s) (n.findings names s)
    slot_tidy ps absent h s g = unmoved absent refl
    slot_tidy ps clash h s g = unmoved clash refl
    slot_tidy ps (one k d) h s g =
        rw (g k h.0 ∙ ap (from_step (key k)) (T.found names (one k d))
        ∙ at-under (key k) (key k) (T.value d) (same_key-self k)) (T.tidy names k d (value_sorted k d ms s h.1))

-- THE ROWS
module _ {A : Type 0} (named : List Text) where
  -- the key is one that these rows read
  abbrev pub Owns : Rows A → Text → Type 0
  Owns (r ⨾ rs) k = HasSpelling r.spellings k ⊎ Owns rs k
  Owns (others get K) k = is_among named k ≡ false
  Owns no_more k = ⊥

  abbrev pub Within : Rows A → Type 0
  Within rows = (k : Text) → is_among (spelled rows) k ≡ true → is_among named k ≡ true

  pub within_later : (r : Forms.Row A) (rs : Rows A) → Within (r ⨾ rs) → Within rs
  within_later r rs w k h = w k (later_among r.spellings (spelled rs) k h)

  owned_cases : (rows : Rows A) (k : Text) → Owns rows k → (is_among (spelled rows) k ≡ true)
      ⊎ ((is_among named k ≡ false) × (is_closed rows ≡ false))
  owned_cases no_more k o = absurd o
  owned_cases (others get K) k o = inr (o, refl)
  owned_cases (r ⨾ rs) k (inl e) = inl (spelling_among r.spellings (spelled rs) k e)
  owned_cases (r ⨾ rs) k (inr o) = elim (owned_cases rs k o) [
    | inl h ↦ inl (later_among r.spellings (spelled rs) k
        h)
    | inr h ↦ inr h
  ]

  pub owned_spelled : (rows : Rows A) (k : Text) → is_closed rows ≡ true → Owns rows k → is_among (spelled rows)
      k ≡ true
  owned_spelled rows k c o = elim (owned_cases rows k o) [ inl h ↦ h | inr h ↦ absurd (true≢false (sym c ∙ h.1)) ]

  -- no key of the later rows is a spelling of the first
  pub owned_once : (r : Forms.Row A) (rs : Rows A) (k : Text) → differ r.spellings (spelled rs) ≡ true → Within (r ⨾ rs)
      → Owns rs k → HasSpelling r.spellings k → ⊥
  owned_once r rs k d w o e = elim (owned_cases rs k o) [
    | inl h ↦ differ_from r.spellings (spelled rs) k d e h
    | inr h ↦ true≢false (sym (w k (spelling_among r.spellings (spelled rs) k e)) ∙ h.0)
  ]

  module _ (ms : Members) where
    abbrev own : Forms.Row A → List Finding
    own r = r.need.findings r.spellings (at r.spellings ms)

    abbrev all : Rows A → List Finding
    all rows = findings_beside named rows ms

    row_vanish : (r : Forms.Row A) (k : Text) → IsSoundNeed r.need
        → ((d : Data) → has_entry k d ms → HasSpelling r.spellings k → ⊥) → unused_at (key k) (own r) ≡ []
    row_vanish r k t none =
        slot_vanish r.need t.finds r.spellings ms (at r.spellings ms) k (slot_of r.spellings ms) none

    -- nothing is found under a key that the rows do not read, nor under one that is absent
    pub rows_vanish : (rows : Rows A) (k : Text) → AreSound rows → ((d : Data) → has_entry k d ms → Owns rows k → ⊥)
        → unused_at (key k) (all rows) ≡ []
    rows_vanish no_more k t none = refl
    rows_vanish (others get K) k t none = none_beside K k (without named ms) (λ d h. let (a, b) = entry_beside named k d
        ms h in none d a b)
    rows_vanish (r ⨾ rs) k t none = at_second (key k) (own r) (all rs) (row_vanish r k t.0 (λ d h e. none d h (inl e)))
        ∙ rows_vanish rs k t.1 (λ d h o. none d h (inr o))

    pub rows_inner : (rows : Rows A) → AreSound rows → Inner (all rows) × ((k : Text) → Stays (key k) (all rows))
    rows_inner no_more t = (refl, λ k. refl)
    rows_inner (others get K) t = entries_inner t (without named ms)
    rows_inner (r ⨾ rs) t =
        let (a, b) = slot_inner r.need t.0.finds r.spellings (at r.spellings ms) in
        let (c, d) = rows_inner rs t.1 in
        (inner_append (own r) (all rs) a c, λ k. stays_append (key k) (own r) (all rs) (b k) (d k))

    -- these paths go by each key that the rows read as their own do
    abbrev pub Agrees : Rows A → List Path → Type 0
    Agrees rows ps = (k : Text) → Owns rows k → from_step (key k) ps ≡ unused_at (key k) (all rows)

    pub rows_tidy : (rows : Rows A) (ps : List Path) → AreSound rows → distinct rows ≡ true → Within rows → InOrder ms
        → Agrees rows ps
        → let ns = left_out_members ps ms in
        AlikeBut (fits_beside named rows ns) (findings_beside named rows ns) (fits_beside named rows ms)
        (findings_beside named rows ms)
    rows_tidy no_more ps t d w s g = (λ x. same, refl)
    rows_tidy (others get K) ps t d w s g =
        rw (without-left ps named ms)
        (entries_tidy t ps (without named ms) (λ k d h. g k (entry_beside named k d ms h).1) (order_beside named ms s))
    rows_tidy (r ⨾ rs) ps t d w s g =
        let (new, more) = and_parts (differ r.spellings (spelled rs)) (distinct rs) d in
        let first : (k : Text) → HasSpelling r.spellings k → from_step (key k) ps ≡ unused_at (key k) (own r) =
        λ k e. g k (inl e) ∙ at_first (key k) (own r) (all rs) (rows_vanish rs k t.1 (λ d h o. owned_once r rs k new w o
        e)) in
        let rest : Agrees rs ps = λ k o. g k (inr o) ∙ at_second (key k) (own r) (all rs)
        (row_vanish r k t.0 (λ d h e. owned_once r rs k new w o e)) in
        let left =
        at-left r.spellings ps ms
        (λ k e. ap ends_here (first k e) ∙ (slot_inner r.need t.0.finds r.spellings (at r.spellings ms)).1 k) in
        let here = slot_tidy r.need t.0.finds r.spellings ms ps (at r.spellings ms) (slot_of r.spellings ms) s first in
        let there = rows_tidy rs ps t.1 more (within_later r rs w) s rest in
        rw left (
          λ x. both_ways (here.0 x.0) (there.0 x.1),
          ap₂ (λ fs gs. fs ++ gs) here.1 there.1
              ∙ sym (but-append (own r) (all rs)),
        )

    -- nothing is left over of a table without the keys that are
    pub none_left_over : (rows : Rows A) (ps : List Path)
        → ((k : Text) (d : Data) → has_entry k d (left_beside named rows ms) → ends_here (from_step (key k) ps) ≡ true)
        → left_beside named rows (left_out_members ps ms) ≡ no_members
    none_left_over no_more ps h = without-left ps named ms ∙ all_gone ps (without named ms) h
    none_left_over (others get K) ps h = refl
    none_left_over (r ⨾ rs) ps h = none_left_over rs ps h

    -- an entry that is left over is one that the rows do not read
    pub left_unowned : (rows : Rows A) (k : Text) (d : Data) → Within rows → has_entry k d (left_beside named rows ms)
        → Owns rows k → ⊥
    left_unowned no_more k d w h o = o
    left_unowned (others get K) k d w h o = h
    left_unowned (r ⨾ rs) k d w h (inl e) =
        true≢false (sym (w k (spelling_among r.spellings (spelled rs) k e)) ∙ left_named rs h)
      where
        left_named : (rs : Rows A) → has_entry k d (left_beside named rs ms) → is_among named k ≡ false
        left_named no_more h = (entry_beside named k d ms h).1
        left_named (others get K) h = absurd h
        left_named (r ⨾ rs) h = left_named rs h
    left_unowned (r ⨾ rs) k d w h (inr o) = left_unowned rs k d (within_later r rs w) h o

    -- none of the keys that are left over is one that the rows read
    pub left_vanish : (rows : Rows A) (k : Text) → Within rows → (is_among named k ≡ true) ⊎ Owns rows k
        → unused_at (key k) (unused_keys (left_beside named rows ms)) ≡ []
    left_vanish no_more k w (inl h) = named_not_found named k ms h
    left_vanish no_more k w (inr o) = absurd o
    left_vanish (others get K) k w h = refl
    left_vanish (r ⨾ rs) k w (inl h) = left_vanish rs k (within_later r rs w) (inl h)
    left_vanish (r ⨾ rs) k w (inr (inl e)) = left_vanish rs k (within_later r rs w)
        (inl (w k (spelling_among r.spellings (spelled rs) k e)))
    left_vanish (r ⨾ rs) k w (inr (inr o)) = left_vanish rs k (within_later r rs w) (inr o)

    pub left-closed : (rows : Rows A) → is_closed rows ≡ true → left_beside named rows ms ≡ without named ms
    left-closed no_more c = refl
    left-closed (others get K) c = absurd (true≢false (sym c))
    left-closed (r ⨾ rs) c = left-closed rs c

first_spelled : (names : Spellings) → HasSpelling names (first names)
first_spelled (only k) = refl
first_spelled (both k l) = inl refl

module _ (ms : Members) (s : InOrder ms) where
  slot_place : (names : Spellings) → HasSpelling names (slot_key names (at names ms)) × IsSlotSorted (at names ms)
  slot_place names = by_slot (at names ms) (slot_of names ms)
    where
      by_slot : (t : Slot) → OfOne (λ k d. HasSpelling names k × has_entry k d ms) t
          → HasSpelling names (slot_key names t) × IsSlotSorted t
      by_slot (one k d) h = (h.0, value_sorted k d ms s h.1)
      by_slot _ h = (first_spelled names, tt)

  -- the paths of what is found of a row begin with one of its spellings
  pub row_diverging : {C : Type 0} (n : Needs.Need C) (names : Spellings) → IsSoundNeed n
      → DivergingBy (KeyOf (HasSpelling names)) (n.findings names (at names ms))
  row_diverging n names T =
      let (here, sorted) = slot_place names in
      record {
        begin = begin_weaker (found_paths (n.findings names (at names ms))) (λ t e. rw e here)
            (T.finds.begins names (at names ms));
        diverge = T.finds.once names (at names ms) sorted;
      }

  module _ {A : Type 0} (named : List Text) where
    -- the paths of what is found of the rows begin with the keys that they read
    pub rows_diverging : (rows : Rows A) → AreSound rows → distinct rows ≡ true → Within named rows
        → DivergingBy (KeyOf (Owns named rows)) (findings_beside named rows ms)
    rows_diverging no_more t d w = none_diverging
    rows_diverging (others get K) t d w =
        weaker_diverging (key_weaker (λ k h. (entry_beside named k h.0 ms h.1).1))
        (entries_diverging K.findings t.once (without named ms) (order_beside named ms s))
    rows_diverging (r ⨾ rs) t d w =
        let (new, more) = and_parts (differ r.spellings (spelled rs)) (distinct rs) d in
        both_diverging (row_diverging r.need r.spellings t.0) (rows_diverging rs t.1 more (within_later named r rs w))
        (key_weaker (λ k e. inl e)) (key_weaker (λ k o. inr o))
        (key_apart (λ k e o. owned_once named r rs k new w o e))

    pub left_diverging : (rows : Rows A) → DivergingBy (KeyOf (λ k. (is_among named k ≡ false)
        × (is_closed rows ≡ true))) (unused_keys (left_beside named rows ms))
    left_diverging no_more = weaker_diverging (key_weaker (λ k h. ((entry_beside named k h.0 ms h.1).1, refl)))
        (keys_diverging (without named ms) (order_beside named ms s))
    left_diverging (others get K) = none_diverging
    left_diverging (r ⨾ rs) = left_diverging rs

-- THE ROWS of a form satisfy the laws
module _ {A : Type 0} (named : List Text) where
  pub rows_single : (rows : Rows A) (ms : Members) (t u : Fields rows) → AreSound rows → fits_beside named rows ms t
      → fits_beside named rows ms u → t ≡ u
  rows_single no_more ms t u l a b = refl
  rows_single (others get K) ms t u l a b = entries_single l (without named ms) t u a b
  rows_single (r ⨾ rs) ms t u l a b = λ i. (
    l.0.single (at r.spellings ms) t.0 u.0 a.0 b.0 i,
    rows_single rs ms t.1 u.1
        l.1 a.1 b.1 i,
  )

  pub rows_decided : (rows : Rows A) (ms : Members) → AreSound rows
      → Decided (findings_beside named rows ms) (fits_beside named rows ms)
  rows_decided no_more ms l = (λ e. (tt, tt), λ a. refl)
  rows_decided (others get K) ms l = entries_decided l (without named ms)
  rows_decided (r ⨾ rs) ms l =
      let cut = both_none (r.need.findings r.spellings (at r.spellings ms)) (findings_beside named rs ms) in
      let (first, back) = l.0.finds.decided r.spellings (at r.spellings ms) in
      let (more, from) = rows_decided rs ms l.1 in (
        λ e. let (a, b) = cut.0 e in let (x, p) = first a in let (y, q) = more b in ((x, y), (p, q)),
        λ a. cut.1 (back (a.0.0, a.1.0), from (a.0.1, a.1.1)),
      )

  pub rows_well : (rows : Rows A) (ms : Members) (t : Fields rows) → AreSound rows → fits_beside named rows ms t
      → good_beside named rows t
  rows_well no_more ms t l a = tt
  rows_well (others get K) ms t l a = (entries_none_named named K ms t a, entries_well l (without named ms) t a)
  rows_well (r ⨾ rs) ms t l a = (l.0.well (at r.spellings ms) t.0 a.0, rows_well rs ms t.1 l.1 a.1)

  -- of a table that holds what is written of each row: it is read back, nothing is found, and nothing is left over
  pub rows_back : (rows : Rows A) (ms : Members) (t : Fields rows) → AreSound rows → good_beside named rows t
      → holds_beside named rows t ms
      → fits_beside named rows ms t × (findings_beside named rows ms ≡ []) × (left_beside named rows ms ≡ no_members)
  rows_back no_more ms t l g h = (tt, refl, h)
  rows_back (others get K) ms t l g h = let (r, e) = entries_back l t g.1 in (rw h r, rw h e, refl)
  rows_back (r ⨾ rs) ms t l g h =
      let (q, f, n) = rows_back rs ms t.1 l.1 g.1 h.1 in
      let own : r.need.findings r.spellings (at r.spellings ms) ≡ [] =
      rw h.0 (l.0.finds.clean r.spellings (first r.spellings) t.0 g.0) in
      ((rw h.0 (l.0.back (first r.spellings) t.0 g.0), q), ap₂ (λ fs gs. fs ++ gs) own f, n)

-- THE FORM
module _ {A : Type 0} (rows : Rows A) (T : AreSound rows) where
  abbrev left : Members → List Finding
  left ms = unused_keys (left_over rows ms)

  -- a key that a row has stays
  pub key_stays : (ms : Members) (k : Text) → is_among (spelled rows) k ≡ true
      → Stays (key k) (form_findings rows (table ms))
  key_stays ms k h = ap ends_here (at_first (key k) (row_findings rows ms) (left ms) (left_vanish (spelled rows) ms rows
      k (λ k h. h) (inl h))) ∙ (rows_inner (spelled rows) ms rows T).1 k

  pub unused_if_no_row : UnusedIfNoRow rows
  unused_if_no_row c ms k d h = elim (cases_Bool (is_among (spelled rows) k)) [
    | inl e ↦ key_stays ms k e ∙ ap not (sym e)
    | inr e ↦
        ap ends_here (at_second (key k) (row_findings rows ms) (left ms) (rows_vanish (spelled rows) ms rows k T
        (λ d h o. true≢false (sym (owned_spelled (spelled rows) rows k c o) ∙ e))))
        ∙ rw (left-closed (spelled rows) ms rows c) (key_found k d (without (spelled rows) ms)
        (kept_beside (spelled rows) k d ms h e)) ∙ ap not (sym e)
  ]

module _ {A : Type 0} (rows : Rows A) (L : AreSound rows) (B : IsBuilt rows) (D : IsTrue (distinct rows)) where
  form_single : (d : Data) (x y : A) → reads_form rows d x → reads_form rows d y → x ≡ y
  form_single (table ms) x y a b = sym (B.all x) ∙ ap B.build (rows_single (spelled rows) rows ms (gets rows x)
      (gets rows y) L a b) ∙ B.all y
  form_single _ x y a b = absurd a

  form_decided : (d : Data) → Decided (form_findings rows d) (reads_form rows d)
  form_decided (table ms) =
      let cut = both_none (row_findings rows ms) (unused_keys (left_over rows ms)) in
      let (there, back) = rows_decided (spelled rows) rows ms L in (
        λ e. let (t, p) = there (cut.0 e).0 in (B.build t, rw (B.each t) p),
        λ a. cut.1 (back (gets rows a.0, a.1), keys_none (left_over rows ms)),
      )
  form_decided _ = (λ e. absurd (no_nil e), λ a. absurd a.1)

  form_well : (d : Data) (x : A) → reads_form rows d x → good_rows rows x
  form_well (table ms) x a = rows_well (spelled rows) rows ms (gets rows x) L a
  form_well _ x a = absurd a

  form_back : (x : A) → good_rows rows x → let d = table (written_rows rows (gets rows x)) in
      reads_form rows d x × (form_findings rows d ≡ [])
  form_back x g =
      let (p, e, n) =
      rows_back (spelled rows) rows (written_rows rows (gets rows x)) (gets rows x) L g
      (writes_each_row rows D x g) in
      (p, ap₂ (λ fs ms. fs ++ unused_keys ms) e n)

  pub table_tidy : (ps : List Path) (ms : Members) → InOrder ms → Agrees (spelled rows) ms rows ps
      → let ns = left_out_members ps ms in
      AlikeBut (reads_form rows (table ns)) (row_findings rows ns) (reads_form rows (table ms))
      (row_findings rows ms)
  table_tidy ps ms s g =
      let (a, b) = rows_tidy (spelled rows) ms rows ps L D (λ k h. h) s g in (λ x. a (gets rows x), b)

  form_tidy : (d : Data) → is_sorted d ≡ true → let e = left_out (unused_of (form_findings rows d)) d in
      AlikeBut (reads_form rows e) (form_findings rows e) (reads_form rows d) (form_findings rows d)
  form_tidy (table ms) s =
      let named = spelled rows in
      let ps = unused_of (form_findings rows (table ms)) in
      let (a, b) =
      table_tidy ps ms (in_order ms s)
      (λ k o. at_first (key k) (row_findings rows ms) (left rows L ms)
      (left_vanish named ms rows k (λ k h. h) (inr o))) in
      let gone = none_left_over named ms rows ps (λ k d h.
      ap ends_here
      (at_second (key k) (row_findings rows ms) (left rows L ms)
      (rows_vanish named ms rows k L (λ e i o. left_unowned named ms rows k d (λ k h. h) h o)))
      ∙ key_found k d (left_over rows ms) h) in (
        a,
        ap₂ (λ fs ns. fs ++ unused_keys ns) b gone
            ∙ sym (but-append (row_findings rows ms) (left rows L ms)
            ∙ ap (λ fs. but_unused (row_findings rows ms) ++ fs) (but-keys (left_over rows ms))),
      )
  form_tidy _ s = (λ x. same, refl)

  form_once : (ms : Members) → InOrder ms → AllDiverge (found_paths (form_findings rows (table ms)))
  form_once ms s =
      let named = spelled rows in
      (both_diverging {R = λ t. Unit {0}} (rows_diverging ms s named rows L D (λ k h. h))
      (left_diverging ms s named rows) (λ t h. tt) (λ t h. tt)
      (key_apart (λ k o h. true≢false (sym (owned_spelled named rows k h.1 o) ∙ h.0)))).diverge

  pub form_sound : IsSound (form rows)
  form_sound = record {
    single = form_single;
    decided = form_decided;
    well = form_well;
    back = form_back;
    tidy = form_tidy;
    inside =
        elim [
          | table ms ↦ inner_append (row_findings rows ms) (left rows L ms) (rows_inner (spelled rows) ms rows L).0
              (inner_keys (left_over rows ms))
          | _ ↦ refl
        ];
    once = elim [ table ms ↦ λ s. form_once ms (in_order ms s) | _ ↦ λ s. (tt, tt) ];
  }
