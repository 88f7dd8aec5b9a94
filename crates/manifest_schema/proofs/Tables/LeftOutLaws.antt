-- The paths of the keys that nothing reads, by their first step; and what a table is without these keys.
use Rattle.manifest_schema.specs.Prelude.{and_parts, append-nil, cases_Bool, is_eq, is_lt, nat_list_cmp_total, slice_cmp, none-some, Data, array, table, Items, no_items, item, Members, no_members, member, get_member, same_key, is_before, is_sorted, members_are_sorted, Text, Path, Step, key, is_among, without, has_entry, same_step, from_step, ends_here, left_out, left_out_items, left_out_members}
use Rattle.std.proofs.Common.{◌≡◌, ℕ, suc, Bool, true, false, ◌&&◌, ◌⊎◌, if◌then◌else◌, List, [], ◌∷◌, ◌++◌, Option, Some, None, Ordering, Less, Equal, Greater, nat_cmp, inl, inr, refl, sym, ap, ap₂, ◌∙◌, subst, true≢false}
use Rattle.manifest_schema.specs.Findings.{Finding, fault, ignored, unused, found_under, unused_keys, leniently, unused_of}
use Rattle.manifest_schema.proofs.Tables.TableLaws.{same_key-self, same_key-true, same_key-false, get-member_other, get-member_same}

-- THE PATHS AFTER A STEP, of the keys that nothing reads
abbrev pub unused_at : Step → List Finding → List Path
unused_at s fs = from_step s (unused_of fs)

unused-append : (fs gs : List Finding) → unused_of (fs ++ gs) ≡ unused_of fs ++ unused_of gs
unused-append [] gs = refl
unused-append (fault p c ws ∷ fs) gs = unused-append fs gs
unused-append (ignored p c ws ∷ fs) gs = unused-append fs gs
unused-append (unused p ∷ fs) gs = ap (λ ps. p ∷ ps) (unused-append fs gs)

from-append : (s : Step) (ps qs : List Path) → from_step s (ps ++ qs) ≡ from_step s ps ++ from_step s qs
from-append s [] qs = refl
from-append s ([] ∷ ps) qs = from-append s ps qs
from-append s ((t ∷ p) ∷ ps) qs = elim (cases_Bool (same_step s t))
    [ inl e ↦ rw e (ap (λ r. p ∷ r) (from-append s ps qs)) | inr e ↦ rw e (from-append s ps qs) ]

pub at-append : (s : Step) (fs gs : List Finding) → unused_at s (fs ++ gs) ≡ unused_at s fs ++ unused_at s gs
at-append s fs gs = ap (from_step s) (unused-append fs gs) ∙ from-append s (unused_of fs) (unused_of gs)

-- those of the first findings, or of the ones after them
pub at_first : (s : Step) (fs gs : List Finding) → unused_at s gs ≡ [] → unused_at s (fs ++ gs) ≡ unused_at s fs
at_first s fs gs e = at-append s fs gs ∙ ap (λ ps. unused_at s fs ++ ps) e ∙ append-nil (unused_at s fs)

pub at_second : (s : Step) (fs gs : List Finding) → unused_at s fs ≡ [] → unused_at s (fs ++ gs) ≡ unused_at s gs
at_second s fs gs e = at-append s fs gs ∙ ap (λ ps. ps ++ unused_at s gs) e

pub at-under : (s t : Step) (fs : List Finding) → same_step s t ≡ true → unused_at s (found_under t fs) ≡ unused_of fs
at-under s t [] e = refl
at-under s t (fault p c ws ∷ fs) e = at-under s t fs e
at-under s t (ignored p c ws ∷ fs) e = at-under s t fs e
at-under s t (unused p ∷ fs) e = rw e (ap (λ ps. p ∷ ps) (at-under s t fs e))

pub at-other : (s t : Step) (fs : List Finding) → same_step s t ≡ false → unused_at s (found_under t fs) ≡ []
at-other s t [] e = refl
at-other s t (fault p c ws ∷ fs) e = at-other s t fs e
at-other s t (ignored p c ws ∷ fs) e = at-other s t fs e
at-other s t (unused p ∷ fs) e = rw e (at-other s t fs e)

pub unused-lenient : (fs : List Finding) → unused_of (leniently fs) ≡ unused_of fs
unused-lenient [] = refl
unused-lenient (fault p c ws ∷ fs) = unused-lenient fs
unused-lenient (ignored p c ws ∷ fs) = unused-lenient fs
unused-lenient (unused p ∷ fs) = ap (λ ps. p ∷ ps) (unused-lenient fs)

-- NO KEY among some findings, and so none with a step before their paths
pub bare_under : (s : Step) (fs gs : List Finding) → unused_of fs ≡ [] → unused_of gs ≡ [] → unused_of (found_under s fs
    ++ gs) ≡ []
bare_under s [] gs e h = h
bare_under s (fault p c ws ∷ fs) gs e h = bare_under s fs gs e h
bare_under s (ignored p c ws ∷ fs) gs e h = bare_under s fs gs e h
bare_under s (unused p ∷ fs) gs e h = cc

-- NO PATH ENDS at the value itself, or at what a step leads to
none_end : (ps qs : List Path) → ends_here ps ≡ false → ends_here qs ≡ false → ends_here (ps ++ qs) ≡ false
none_end [] qs h k = k
none_end ([] ∷ ps) qs h k = absurd (true≢false h)
none_end ((s ∷ p) ∷ ps) qs h k = none_end ps qs h k

abbrev pub Inner : List Finding → Type 0
Inner fs = ends_here (unused_of fs) ≡ false

pub inner_append : (fs gs : List Finding) → Inner fs → Inner gs → Inner (fs ++ gs)
inner_append fs gs h k = ap ends_here (unused-append fs gs) ∙ none_end (unused_of fs) (unused_of gs) h k

pub inner_under : (s : Step) (fs : List Finding) → Inner (found_under s fs)
inner_under s [] = refl
inner_under s (fault p c ws ∷ fs) = inner_under s fs
inner_under s (ignored p c ws ∷ fs) = inner_under s fs
inner_under s (unused p ∷ fs) = inner_under s fs

pub inner_keys : (ms : Members) → Inner (unused_keys ms)
inner_keys no_members = refl
inner_keys (member k d ms) = inner_keys ms

abbrev pub Stays : Step → List Finding → Type 0
Stays s fs = ends_here (unused_at s fs) ≡ false

pub stays_append : (s : Step) (fs gs : List Finding) → Stays s fs → Stays s gs → Stays s (fs ++ gs)
stays_append s fs gs h k = ap ends_here (at-append s fs gs) ∙ none_end (unused_at s fs) (unused_at s gs) h k

pub stays_under : (s t : Step) (fs : List Finding) → Inner fs → Stays s (found_under t fs)
stays_under s t fs h = elim (cases_Bool (same_step s t)) [
  | inl e ↦ ap ends_here (at-under s t fs e)
      ∙ h
  | inr e ↦ ap ends_here (at-other s t fs e)
]

-- WITHOUT NO ENTRIES a value is itself
mutual
  pub left-nothing : (d : Data) → left_out [] d ≡ d
  left-nothing (array ds) = ap array (items_left-nothing 0 ds)
  left-nothing (table ms) = ap table (members_left-nothing ms)
  left-nothing _ = refl

  items_left-nothing : (i : ℕ) (ds : Items) → left_out_items [] i ds ≡ ds
  items_left-nothing i no_items = refl
  items_left-nothing i (item d ds) = ap₂ item (left-nothing d) (items_left-nothing (suc i) ds)

  members_left-nothing : (ms : Members) → left_out_members [] ms ≡ ms
  members_left-nothing no_members = refl
  members_left-nothing (member k d ms) = ap₂ (member k) (left-nothing d) (members_left-nothing ms)

-- WHAT IS FOUND UNDER A KEY, by the paths that go by it
abbrev pub left_value : List Path → Option Data → Option Data
left_value ps None = None
left_value ps (Some d) = if ends_here ps then None else Some (left_out ps d)

left_value-ended : (ps : List Path) (o : Option Data) → ends_here ps ≡ true → left_value ps o ≡ None
left_value-ended ps None e = refl
left_value-ended ps (Some d) e = rw e

pub get-left : (ps : List Path) (k : Text) (ms : Members) → get_member k (left_out_members ps ms) ≡ left_value
    (from_step (key k) ps) (get_member k ms)
get-left ps k no_members = refl
get-left ps k (member l d ms) = elim (cases_Bool (same_key k l)) [
  | inl same ↦ rw (← same_key-true k l same, get-member_same k d ms)
      (elim (cases_Bool (ends_here (from_step (key k) ps))) [
        | inl e ↦ rw e (get-left ps k ms ∙ left_value-ended (from_step (key k) ps) (get_member k ms) e)
        | inr e ↦ rw e (get-member_same k (left_out (from_step (key k) ps) d) (left_out_members ps ms))
      ])
  | inr other ↦ rw (get-member_other k l d ms other) (elim (cases_Bool (ends_here (from_step (key l) ps))) [
    | inl e ↦ rw e (get-left ps k ms)
    | inr e ↦ rw e (get-member_other k l (left_out (from_step (key l) ps) d) (left_out_members ps ms) other
        ∙ get-left ps k ms)
  ])
]

-- a test of what is found under a key tells the same where the key stays, and where it failed
pub test-left : (f : Option Data → Bool) → f None ≡ false → ((ps : List Path) (d : Data) → f (Some (left_out ps d)) ≡ f
    (Some d)) → (ps : List Path) (k : Text) (ms : Members)
    → (ends_here (from_step (key k) ps) ≡ false) ⊎ (f (get_member k ms) ≡ false)
    → f (get_member k (left_out_members ps ms)) ≡ f (get_member k ms)
test-left f none keeps ps k ms h = ap f (get-left ps k ms) ∙ tested (from_step (key k) ps) (get_member k ms) h
  where
    tested : (ps : List Path) (o : Option Data) → (ends_here ps ≡ false) ⊎ (f o ≡ false) → f (left_value ps o) ≡ f o
    tested ps None h = refl
    tested ps (Some d) (inl e) = rw e (keeps ps d)
    tested ps (Some d) (inr e) = elim (cases_Bool (ends_here ps)) [
      | inl t ↦ rw t (none ∙ sym e)
      | inr t ↦ rw t
          (keeps ps d)
    ]

-- the entries under other keys, taken before or after
pub without-left : (ps : List Path) (named : List Text) (ms : Members)
    → without named (left_out_members ps ms) ≡ left_out_members ps (without named ms)
without-left ps named no_members = refl
without-left ps named (member k d ms) = elim (cases_Bool (is_among named k)) [
  | inl n ↦ elim (cases_Bool (ends_here (from_step (key k) ps))) [
    | inl e ↦ rw (e, n) (without-left ps named ms)
    | inr
        e ↦ rw (e, n) (without-left ps named ms)
  ]
  | inr n ↦ elim (cases_Bool (ends_here (from_step (key k) ps))) [
    | inl e ↦ rw (n, e) (without-left ps named ms)
    | inr e ↦ rw (n, e, n) (ap (member k (left_out (from_step (key k) ps) d)) (without-left ps named ms))
  ]
]

-- ENTRIES
get-tied : (k l : Text) (d : Data) (ms : Members) → same_key k l ≡ true → get_member k (member l d ms) ≡ Some d
get-tied k l d ms h = subst (λ j. get_member k (member j d ms) ≡ Some d) (same_key-true k l h) (get-member_same k d ms)

pub entry_found : (k : Text) (d : Data) (ms : Members) → get_member k ms ≡ Some d → has_entry k d ms
entry_found k d no_members g = absurd (none-some d g)
entry_found k d (member l e ms) g = elim (cases_Bool (same_key k l)) [
  | inl same ↦ let h = get-tied k l e ms same in inl (same_key-true k l same, cc)
  | inr other ↦ inr (entry_found k d ms (sym (get-member_other k l e ms other) ∙ g))
]

pub entry_there : (k : Text) (d : Data) (ms : Members) → has_entry k d ms → get_member k ms ≡ None → ⊥
entry_there k d no_members h g = h
entry_there k d (member l e ms) h g = elim (cases_Bool (same_key k l)) [
  | inl same ↦ none-some e (sym g ∙ get-tied k l e ms same)
  | inr other ↦ elim h [
    | inl here ↦ true≢false (sym (same_key-self l) ∙ rw here.0 at other)
    | inr there ↦ entry_there k d ms there (sym (get-member_other k l e ms other) ∙ g)
  ]
]

-- an entry under another key than the named ones is one of the table, and its key is not named
pub entry_beside : (named : List Text) (k : Text) (d : Data) (ms : Members) → has_entry k d (without named ms)
    → has_entry k d ms × (is_among named k ≡ false)
entry_beside named k d no_members h = absurd h
entry_beside named k d (member l e ms) h = elim (cases_Bool (is_among named l)) [
  | inl n ↦ let (a, b) = entry_beside named k d ms (rw n at h) in (inr a, b)
  | inr n ↦ elim (rw n at h) [
    | inl here ↦ (inl here, rw here.0 n)
    | inr there ↦ let (a, b) = entry_beside named k d ms
        there in (inr a, b)
  ]
]

pub kept_beside : (named : List Text) (k : Text) (d : Data) (ms : Members) → has_entry k d ms → is_among named k ≡ false
    → has_entry k d (without named ms)
kept_beside named k d no_members h n = h
kept_beside named k d (member l e ms) h n = elim (cases_Bool (is_among named l)) [
  | inl m ↦ rw m (elim h [
    | inl here ↦ absurd (true≢false (sym m ∙ rw here.0 at n))
    | inr there ↦ kept_beside named k d
        ms there n
  ])
  | inr m ↦ rw m (elim h [ inl here ↦ inl here | inr there ↦ inr (kept_beside named k d ms there n) ])
]

-- the entries that nothing reads are found at their keys, and under no other
pub no_key_found : (k : Text) (ms : Members) → ((d : Data) → has_entry k d ms → ⊥)
    → unused_at (key k) (unused_keys ms) ≡ []
no_key_found k no_members none = refl
no_key_found k (member l d ms) none = rw (same_key-false k l (λ e. none d (inl (e, refl))))
    (no_key_found k ms (λ e there. none e (inr there)))

pub named_not_found : (named : List Text) (k : Text) (ms : Members) → is_among named k ≡ true
    → unused_at (key k) (unused_keys (without named ms)) ≡ []
named_not_found named k ms h = no_key_found k (without named ms)
    (λ d there. true≢false (sym h ∙ (entry_beside named k d ms there).1))

pub key_found : (k : Text) (d : Data) (ms : Members) → has_entry k d ms
    → ends_here (unused_at (key k) (unused_keys ms)) ≡ true
key_found k d no_members h = absurd h
key_found k d (member l e ms) h = elim (cases_Bool (same_key k l)) [
  | inl same ↦ rw same
  | inr other ↦ rw other (elim h [
    | inl here ↦ absurd (true≢false (sym (same_key-self l) ∙ rw here.0 at other))
    | inr
        there ↦ key_found k d ms there
  ])
]

-- where each key is the end of a path, no entry is left
pub all_gone : (ps : List Path) (ms : Members)
    → ((k : Text) (d : Data) → has_entry k d ms → ends_here (from_step (key k) ps) ≡ true)
    → left_out_members ps ms ≡ no_members
all_gone ps no_members h = refl
all_gone ps (member k d ms) h = rw (h k d (inl (refl, refl))) (all_gone ps ms (λ l e there. h l e (inr there)))

-- EACH KEY ONCE, and the keys inside ascend
abbrev pub InOrder : Members → Type 0
InOrder no_members = Unit {0}
InOrder (member k d ms) = ((e : Data) → has_entry k e ms → ⊥) × (is_sorted d ≡ true) × InOrder ms

pub order_beside : (named : List Text) (ms : Members) → InOrder ms → InOrder (without named ms)
order_beside named no_members h = tt
order_beside named (member k d ms) h = elim (cases_Bool (is_among named k)) [
  | inl n ↦ rw n (order_beside named ms h.2)
  | inr n ↦ rw n (λ e there. h.0 e (entry_beside named k e ms there).0, h.1, order_beside named ms h.2)
]

pub value_sorted : (k : Text) (d : Data) (ms : Members) → InOrder ms → has_entry k d ms → is_sorted d ≡ true
value_sorted k d no_members s h = absurd h
value_sorted k d (member l e ms) s h = elim h [ inl here ↦ rw here.1 s.1 | inr there ↦ value_sorted k d ms s.2 there ]

less : (o : Ordering) → is_lt o ≡ true → o ≡ Less
less Less h = refl
less Equal h = absurd (true≢false (sym h))
less Greater h = absurd (true≢false (sym h))

-- keys that ascend come one after the other
all_after : (l k : Text) (d : Data) (ms : Members) → is_before l ms ≡ true → members_are_sorted ms ≡ true
    → has_entry k d ms → slice_cmp nat_cmp l k ≡ Less
all_after l k d no_members b s h = absurd h
all_after l k d (member m e ms) b s h =
    let (first, more) = and_parts (is_before m ms && is_sorted e) (members_are_sorted ms) s in
    let next : slice_cmp nat_cmp l m ≡ Less = less (slice_cmp nat_cmp l m) b in
    elim h [
      | inl here ↦ rw here.0 next
      | inr there ↦ nat_list_cmp_total.trans l m k next
          (all_after m k d ms (and_parts (is_before m ms) (is_sorted e) first).0 more there)
    ]

pub in_order : (ms : Members) → members_are_sorted ms ≡ true → InOrder ms
in_order no_members s = tt
in_order (member k d ms) s =
    let (first, more) = and_parts (is_before k ms && is_sorted d) (members_are_sorted ms) s in
    let (next, own) = and_parts (is_before k ms) (is_sorted d) first in (
      λ e there. true≢false (sym (same_key-self k) ∙ ap is_eq (all_after k k e ms next more there)),
      own,
      in_order ms
          more,
    )
