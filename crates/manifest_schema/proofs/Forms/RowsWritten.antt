-- What a form writes of a well-formed content: each row under its first spelling, and nothing else.
use Rattle.manifest_schema.specs.Prelude.{and_parts, not-true, Data, Members, no_members, member, get_member, same_key, Text, Spellings, only, both, first, slot, at, put_some, is_among, without, Entries, reads_entries, written_entries, Fields, gets, Rows, no_more, others, ◌⨾◌, spell, spelled, written_rows, holds_beside, none_named, good_beside, differ, distinct, WritesEachRow}
use Rattle.std.proofs.Common.{◌≡◌, Bool, true, false, not, ◌||◌, if◌then◌else◌, List, [], ◌∷◌, Option, Some, None, IsTrue, refl, sym, ap, ◌∙◌, true≢false}
use Rattle.manifest_schema.specs.Kinds
use Rattle.manifest_schema.proofs.Tables.TableLaws.{same_key-self, same_key-false, not_among_head, not_among_tail, turned, get-member_other, get-put_same, get-put_other, get-put_some_other, without-put_some}

-- SPELLINGS
pub among_here : (k : Text) (ks : List Text) → is_among (k ∷ ks) k ≡ true
among_here k ks = rw (same_key-self k)

or_second : (a b : Bool) → b ≡ true → (a || b) ≡ true
or_second true b h = refl
or_second false b h = h

pub among_there : (l : Text) (ks : List Text) (k : Text) → is_among ks k ≡ true → is_among (l ∷ ks) k ≡ true
among_there l ks k h = or_second (same_key l k) (is_among ks k) h

not_first : (names : Spellings) (ks : List Text) (j : Text) → is_among (spell names ks) j ≡ false
    → same_key (first names) j ≡ false
not_first (only k) ks j h = not_among_head k ks j h
not_first (both k l) ks j h = not_among_head k (l ∷ ks) j h

not_later : (names : Spellings) (ks : List Text) (j : Text) → is_among (spell names ks) j ≡ false
    → is_among ks j ≡ false
not_later (only k) ks j h = not_among_tail k ks j h
not_later (both k l) ks j h = not_among_tail l ks j (not_among_tail k (l ∷ ks) j h)

first_among : (names : Spellings) (ks : List Text) → is_among (spell names ks) (first names) ≡ true
first_among (only k) ks = among_here k ks
first_among (both k l) ks = among_here k (l ∷ ks)

pub later_among : (names : Spellings) (ks : List Text) (j : Text) → is_among ks j ≡ true → is_among (spell names ks)
    j ≡ true
later_among (only k) ks j h = among_there k ks j h
later_among (both k l) ks j h = among_there k (l ∷ ks) j (among_there l ks j h)

first_new : (names : Spellings) (ks : List Text) → differ names ks ≡ true → is_among ks (first names) ≡ false
first_new (only k) ks h = not-true _ h
first_new (both k l) ks h = not_among_tail l ks k
    (not-true _ (and_parts (not (is_among (l ∷ ks) k)) (not (is_among ks l)) h).0)

abbrev OwnDiffer : Spellings → Type 0
OwnDiffer (only k) = Unit {0}
OwnDiffer (both k l) = same_key l k ≡ false

differ_own : (names : Spellings) (ks : List Text) → differ names ks ≡ true → OwnDiffer names
differ_own (only k) ks h = tt
differ_own (both k l) ks h = not_among_head l ks k
    (not-true _ (and_parts (not (is_among (l ∷ ks) k)) (not (is_among ks l)) h).0)

at-put_some : (names : Spellings) (ks : List Text) (j : Text) (o : Option Data) (ms : Members)
    → is_among (spell names ks) j ≡ false → at names (put_some j o ms) ≡ at names ms
at-put_some (only k) ks j o ms h = rw (get-put_some_other k j o ms (not_among_head k ks j h))
at-put_some (both k l) ks j o ms h = rw (
  get-put_some_other k j o ms (not_among_head k (l ∷ ks) j h),
  get-put_some_other
      l j o ms (not_among_head l ks j (not_among_tail k (l ∷ ks) j h)),
)

abbrev AbsentFrom : Spellings → Members → Type 0
AbsentFrom (only k) ms = get_member k ms ≡ None
AbsentFrom (both k l) ms = (get_member k ms ≡ None) × (get_member l ms ≡ None)

at_written : (names : Spellings) (o : Option Data) (ms : Members) → OwnDiffer names → AbsentFrom names ms
    → at names (put_some (first names) o ms) ≡ slot (first names) o
unfolding put_some
at_written (only k) None ms own none = rw none
at_written (only k) (Some d) ms own none = rw (get-put_same k d ms)
at_written (both k l) None ms own none = rw (none.0, none.1)
at_written (both k l) (Some d) ms own none = rw (get-put_same k d ms, get-put_other l k d ms own, none.1)

-- OTHER ENTRIES
none_named_at : (t : Bool) (named : List Text) {B : Type 0} (K : Kinds.Kind B) (k : Text) (d : Data) (ms : Members)
    (es : Entries B) → is_among named k ≡ t → reads_entries K (if t then without named ms else member k d
    (without named ms)) es
    → ((fs : Entries B) → reads_entries K (without named ms) fs → none_named named fs ≡ true)
    → none_named named es ≡ true
none_named_at true named K k d ms es h a ih = ih es a
none_named_at false named K k d ms [] h a ih = refl
none_named_at false named K k d ms (e ∷ es) h a ih = rw (← a.0, h) (ih es a.2)

pub entries_none_named : (named : List Text) {B : Type 0} (K : Kinds.Kind B) (ms : Members) (es : Entries B)
    → reads_entries K (without named ms) es → none_named named es ≡ true
entries_none_named named K no_members [] a = refl
entries_none_named named K no_members (e ∷ es) a = absurd a
entries_none_named named K (member k d ms) es a = none_named_at (is_among named k) named K k d ms es refl a
    (entries_none_named named K ms)

entries_absent : (named : List Text) {B : Type 0} (K : Kinds.Kind B) (es : Entries B) (j : Text)
    → is_among named j ≡ true → none_named named es ≡ true → get_member j (written_entries K es) ≡ None
entries_absent named K [] j known h = refl
entries_absent named K (e ∷ es) j known h =
    let (here, more) = and_parts (not (is_among named e.0)) (none_named named es) h in
    get-member_other j e.0 (K.written e.1) (written_entries K es)
    (same_key-false j e.0 (λ same. true≢false (sym known ∙ ap (is_among named) same ∙ not-true _ here)))
    ∙ entries_absent named K es j known more

without_none : (named : List Text) {B : Type 0} (K : Kinds.Kind B) (es : Entries B) → none_named named es ≡ true
    → without named (written_entries K es) ≡ written_entries K es
without_none named K [] h = refl
without_none named K (e ∷ es) h =
    let (here, more) = and_parts (not (is_among named e.0)) (none_named named es) h in
    rw (not-true _ here) (ap (member e.0 (K.written e.1)) (without_none named K es more))

-- THE ROWS
module _ {A : Type 0} (named : List Text) where
  -- a key of the named ones that no row has is under none of what is written
  pub written_none : (rows : Rows A) (t : Fields rows) (j : Text) → is_among named j ≡ true → is_among (spelled rows)
      j ≡ false → good_beside named rows t → get_member j (written_rows rows t) ≡ None
  written_none no_more t j known new g = refl
  written_none (others get K) t j known new g = entries_absent named K t j known g.0
  written_none (r ⨾ rs) t j known new g =
      get-put_some_other j (first r.spellings) (r.need.written t.0) (written_rows rs t.1) (turned (first r.spellings) j
      (not_first r.spellings (spelled rs) j new))
      ∙ written_none rs t.1 j known (not_later r.spellings (spelled rs) j new) g.1

  -- one more entry that no row has
  holds_more : (rows : Rows A) (ms : Members) (t : Fields rows) (j : Text) (o : Option Data) → is_among named j ≡ true
      → is_among (spelled rows) j ≡ false → holds_beside named rows t ms → holds_beside named rows t (put_some j o ms)
  holds_more no_more ms t j o known new h = without-put_some named j o ms known ∙ h
  holds_more (others get K) ms t j o known new h = without-put_some named j o ms known ∙ h
  holds_more (r ⨾ rs) ms t j o known new h = (
    at-put_some r.spellings (spelled rs) j o ms new ∙ h.0,
    holds_more rs ms
        t.1 j o known (not_later r.spellings (spelled rs) j new) h.1,
  )

  abbrev Within : Rows A → Type 0
  Within rows = (k : Text) → is_among (spelled rows) k ≡ true → is_among named k ≡ true

  no_keys : (rs : Rows A) (t : Fields rs) (names : Spellings) → differ names (spelled rs) ≡ true
      → ((k : Text) → is_among (spell names (spelled rs)) k ≡ true → is_among named k ≡ true) → good_beside named rs t
      → AbsentFrom names (written_rows rs t)
  no_keys rs t (only k) new w g = written_none rs t k (w k (among_here k (spelled rs))) (not-true _ new) g
  no_keys rs t (both k l) new w g =
      let (a, b) = and_parts (not (is_among (l ∷ spelled rs) k)) (not (is_among (spelled rs) l)) new in (
        written_none rs t k (w k (among_here k (l ∷ spelled rs))) (not_among_tail l (spelled rs) k (not-true _ a)) g,
        written_none rs t l (w l (among_there k (l ∷ spelled rs) l (among_here l (spelled rs)))) (not-true _ b) g,
      )

  rows_hold : (rows : Rows A) (t : Fields rows) → distinct rows ≡ true → Within rows → good_beside named rows t
      → holds_beside named rows t (written_rows rows t)
  rows_hold no_more t d w g = refl
  rows_hold (others get K) t d w g = without_none named K t g.0
  rows_hold (r ⨾ rs) t d w g =
      let (new, later) = and_parts (differ r.spellings (spelled rs)) (distinct rs) d in
      let none : AbsentFrom r.spellings (written_rows rs t.1) = no_keys rs t.1 r.spellings new w g.1 in (
        at_written r.spellings (r.need.written t.0) (written_rows rs t.1) (differ_own r.spellings (spelled rs) new)
            none,
        holds_more rs (written_rows rs t.1) t.1 (first r.spellings) (r.need.written t.0)
            (w (first r.spellings) (first_among r.spellings (spelled rs)))
            (first_new r.spellings (spelled rs) new)
            (rows_hold rs t.1 later (λ k h. w k (later_among r.spellings (spelled rs) k h)) g.1),
      )

pub writes_each_row : {A : Type 0} (rows : Rows A) → IsTrue (distinct rows) → WritesEachRow rows
writes_each_row rows d x g = rows_hold (spelled rows) rows (gets rows x) d (λ k h. h) g
