-- The lists of findings leave no choice in the words of a choice, in what is ignored, nor in which keys are unused.
use Rattle.manifest_schema.specs.Prelude.{get_member, ReadsOnly, Rows, no_more, others, ◌⨾◌, Fields, gets, is_closed, fits_beside, findings_beside, row_findings, left_over, spelled, form, at, only, both, cases_Bool, bytes_eq, bytes_eq-Decides, Data, string, table, Items, no_items, item, get_item, none-some, same_Some, index, item_findings, entry_findings, unused_in, UnusedByItems, UnusedByEntries, Members, no_members, member, same_key, Text, Path, Cause, Step, not_a_choice, wrong_kind, key, Spellings, first, Slot, absent, one, clash, is_among, without, has_entry, Kind, choice, inherits, lenient_optional, lenient_default, free_findings, edition, resolver, level, status, strip, strip_meaning, ends_here, Finding, fault, ignored, unused, none_of, found_here, found_under, unused_keys, leniently, faults_of, ignored_of, among, IsSound, ListsWords, faulty_free, Ignores, InheritedUnused, OldTopUnused}
use Rattle.std.proofs.Common.{◌≡◌, ◌++◌, ◌↔◌, ℕ, zero, suc, ◌+◌, arith, Bool, true, false, not, ◌&&◌, ◌||◌, inl, inr, List, [], ◌∷◌, Option, Some, None, is_some, if◌then◌else◌, codes, refl, sym, ap, ◌∙◌, subst, true≢false}
use Rattle.manifest_schema.specs.Choices.{meaning_of, word_meaning, texts_of, word, edition_words, edition_text, resolver_words, resolver_text, level_words, level_text, status_words, status_text, strip_words, strip_value}
use Rattle.manifest_schema.proofs.Tables.TableLaws.{same_key-self, same_key-true, same_key-false}
use Rattle.manifest_schema.proofs.Tables.LeftOutLaws.{InOrder, in_order, at-under, unused_at, at_first, at_second, at-other, named_not_found, key_found, kept_beside}
use Rattle.manifest_schema.proofs.Findings.Faultless.{no_nil, faults-keys}
use Rattle.manifest_schema.proofs.Forms.RowsWritten.{later_among}
use Rattle.manifest_schema.proofs.Forms.FormLaws.{HasSpelling, spelling_among, both_ways}
use Rattle.manifest_schema.proofs.Values.KindLaws.{same, none_before, none_beside}
use Rattle.manifest_schema.proofs.Findings.FoundLaws.{under_to}
use Rattle.manifest_schema.proofs.Findings.UnusedLaws.{old_top_unused}

-- WORDS
same_word : (s w : Text) → bytes_eq s w ≡ same_key w s
same_word s w = elim (cases_Bool (same_key w s)) [
  | inl e ↦ (bytes_eq-Decides s w).1 (sym (same_key-true w s e)) ∙ sym e
  | inr e ↦ elim
      (cases_Bool (bytes_eq s w)) [
        | inl b ↦ absurd
            (true≢false (sym (same_key-self w) ∙ subst (λ t. same_key w t ≡ false) ((bytes_eq-Decides s w).0 b) e))
        | inr b ↦ b ∙ sym e
      ]
]

word_read : {A : Type 0} (ws : List (Text × A)) (s : Text) → is_some (meaning_of ws s) ≡ is_among (texts_of ws) s
word_read [] s = refl
word_read (w ∷ ws) s =
    elim (cases_Bool (bytes_eq s w.0)) [
      | inl e ↦ rw (e, sym (same_word s w.0) ∙ e) refl
      | inr e ↦ rw (e, sym (same_word s w.0) ∙ e) (word_read ws s)
    ]

value_of : {A : Type 0} (o : Option A) → is_some o ≡ true → (x : A) × (o ≡ Some x)
value_of (Some x) e = (x, refl)
value_of None e = absurd (true≢false (sym e))

words_same : (b : Bool) (us ws : List Text) → (if b then [] else none_of us) ≡ fault [] not_a_choice ws ∷ [] → us ≡ ws
words_same true us ws e = absurd (no_nil (sym e))
words_same false us ws e = cc

pub choice_lists : {A : Type 0} (words : List Text) (meaning : Data → Option A) (written : A → Data)
    → ((s : Text) → is_some (meaning (string s)) ≡ is_among words s) → ListsWords (choice words meaning written)
choice_lists words meaning written read s ws e t =
    let same : words ≡ ws = words_same (is_some (meaning (string s))) words ws e in (
      λ h. value_of (meaning (string t)) (read t ∙ rw same h),
      λ a. subst (λ us. is_among us t ≡ true) same (sym (read t) ∙ ap is_some a.1),
    )

word_lists : {A : Type 0} (ws : List (Text × A)) (written : A → Text) → ListsWords (word ws written)
word_lists ws written = choice_lists (texts_of ws) (word_meaning ws) (λ x. string (written x)) (word_read ws)

pub edition_lists : ListsWords edition
edition_lists = word_lists edition_words edition_text

pub resolver_lists : ListsWords resolver
resolver_lists = word_lists resolver_words resolver_text

pub level_lists : ListsWords level
level_lists = word_lists level_words level_text

pub status_lists : ListsWords status
status_lists = word_lists status_words status_text

pub strip_lists : ListsWords strip
strip_lists = choice_lists (texts_of strip_words) strip_meaning strip_value (word_read strip_words)

-- WHAT IS IGNORED
pub ignored-lenient : (fs : List Finding) → ignored_of fs ≡ [] → ignored_of (leniently fs) ≡ faults_of fs
ignored-lenient [] e = refl
ignored-lenient (fault p c ws ∷ fs) e = ap (λ t. (p, c) ∷ t) (ignored-lenient fs e)
ignored-lenient (ignored p c ws ∷ fs) e = absurd (no_nil e)
ignored-lenient (unused p ∷ fs) e = ignored-lenient fs e

pub strict_under : (s : Step) (fs : List Finding) → ignored_of fs ≡ [] → ignored_of (found_under s fs) ≡ []
strict_under s [] e = refl
strict_under s (fault p c ws ∷ fs) e = strict_under s fs e
strict_under s (ignored p c ws ∷ fs) e = absurd (no_nil e)
strict_under s (unused p ∷ fs) e = strict_under s fs e

module _ {B : Type 0} (K : Kind B) (strict : (d : Data) → ignored_of (K.findings d) ≡ []) where
  lenient_ignores : (names : Spellings) (s : Slot) (p : Path) (c : Cause)
      → among (ignored_of (leniently (free_findings names K.findings s))) p c ↔ faulty_free names K s p c
  lenient_ignores names absent p c = (λ h. h, λ h. h)
  lenient_ignores names clash p c = (
    elim [ inl h ↦ ([], h.0, (refl, h.1)) | inr h ↦ absurd h ],
    λ h. inl (h.1 ∙ ap (λ q. key (first names) ∷ q) h.2.0, h.2.1),
  )
  lenient_ignores names (one k d) p c =
      rw (ignored-lenient (found_under (key k) (K.findings d)) (strict_under (key k) (K.findings d) (strict d)))
      (under_to (key k) (K.findings d) p c)

  pub lenient_optional_ignores : Ignores K (lenient_optional K)
  lenient_optional_ignores = lenient_ignores

  pub lenient_default_ignores : (e : B) → Ignores K (lenient_default K e)
  lenient_default_ignores e = lenient_ignores

-- UNUSED KEYS of items and entries
module _ {A : Type 0} {K : Kind A} (S : IsSound K) where
  items_step : (i : ℕ) (ds : Items) (j : ℕ) (d : Data) → get_item j ds ≡ Some d
      → unused_at (index (i + j)) (item_findings K.findings i ds) ≡ unused_in K d
  items_step i no_items zero d g = absurd (none-some d g)
  items_step i no_items (suc j) d g = absurd (none-some d g)
  items_step i (item e ds) zero d g =
      let at : i + 0 ≡ i = omega arith in
      rw (at, ← same_Some e d g)
      (at_first (index i) (found_under (index i) (K.findings e)) (item_findings K.findings (suc i) ds)
      (none_before S i (suc i) ds (omega arith)) ∙ at-under (index i) (index i) (K.findings e) (grind (arith)))
  items_step i (item e ds) (suc j) d g =
      let at : i + suc j ≡ suc i + j = omega arith in
      at_second (index (i + suc j)) (found_under (index i) (K.findings e)) (item_findings K.findings (suc i) ds)
      (at-other (index (i + suc j)) (index i) (K.findings e) (grind (arith)))
      ∙ rw at (items_step (suc i) ds j d g)

  pub unused_by_items : UnusedByItems K
  unused_by_items ds i d g = let zero_more : 0 + i ≡ i = omega arith in rw (← zero_more) (items_step 0 ds i d g)

  entries_step : (ms : Members) → InOrder ms → (k : Text) (d : Data) → has_entry k d ms
      → unused_at (key k) (entry_findings K.findings ms) ≡ unused_in K d
  entries_step no_members s k d h = absurd h
  entries_step (member l e ms) s k d h = elim h [
    | inl here ↦ rw (here.0, here.1)
        (at_first (key l) (found_under (key l) (K.findings e)) (entry_findings K.findings ms) (none_beside K l ms s.0)
        ∙ at-under (key l) (key l) (K.findings e) (same_key-self l))
    | inr there ↦
        at_second (key k) (found_under (key l) (K.findings e)) (entry_findings K.findings ms)
        (at-other (key k) (key l) (K.findings e)
        (same_key-false k l (λ tie. s.0 d (subst (λ j. has_entry j d ms) tie there))))
        ∙ entries_step ms s.2 k d there
  ]

  pub unused_by_entries : UnusedByEntries K
  unused_by_entries ms s k d h = entries_step ms (in_order ms s) k d h

-- UNUSED KEYS next to `workspace`
pub inherited_unused : {A : Type 0} (K : Kind A) → InheritedUnused K
inherited_unused K ms k d h = by_table (inherits (table ms))
  where
    named : List Text
    named = codes "workspace" ∷ []

    by_key : (b : Bool) → is_among named k ≡ b → ends_here (unused_at (key k) (unused_keys (without named ms))) ≡ not b
    by_key true e = ap ends_here (named_not_found named k ms e)
    by_key false e = key_found k d (without named ms) (kept_beside named k d ms h e)

    or_none : (b : Bool) → (b || false) ≡ b
    or_none true = refl
    or_none false = refl

    by_table : (b : Bool)
        → ends_here (unused_at (key k) (if b then unused_keys (without named ms) else found_here wrong_kind))
        ≡ (b && not (same_key (codes "workspace") k))
    by_table true = by_key (is_among named k) refl ∙ ap not (or_none (same_key (codes "workspace") k))
    by_table false = refl

-- and at the top of a table without a header
pub old_top_is_unused : {K W : Kind Data} → IsSound K → IsSound W → OldTopUnused K W
old_top_is_unused k w ms none j d h = old_top_unused k w ms none j d h

-- A CLOSED FORM reads only the keys of its rows
at-same : (names : Spellings) (ms ns : Members) → ((k : Text) → HasSpelling names k → get_member k ms ≡ get_member k ns)
    → at names ms ≡ at names ns
at-same (only k) ms ns h = rw (h k refl) refl
at-same (both k l) ms ns h = rw (h k (inl refl), h l (inr refl)) refl

module _ {A : Type 0} (named : List Text) (ms ns : Members) where
  rows_only : (rows : Rows A) → is_closed rows ≡ true
      → ((k : Text) → is_among (spelled rows) k ≡ true → get_member k ms ≡ get_member k ns)
      → ((t : Fields rows) → fits_beside named rows ms t ↔ fits_beside named rows ns t)
      × (findings_beside named rows ms ≡ findings_beside named rows ns)
  rows_only no_more c h = (λ t. same, refl)
  rows_only (others get K) c h = absurd (true≢false (sym c))
  rows_only (r ⨾ rs) c h =
      let (a, b) = rows_only rs c (λ k e. h k (later_among r.spellings (spelled rs) k e)) in
      rw (at-same r.spellings ms ns (λ k e. h k (spelling_among r.spellings (spelled rs) k e))) (
        λ t. both_ways same (a t.1),
        ap (λ fs. r.need.findings r.spellings (at r.spellings ns) ++ fs) b,
      )

pub form_reads_only : {A : Type 0} (rows : Rows A) → is_closed rows ≡ true → ReadsOnly (spelled rows) (form rows)
form_reads_only rows c ms ns h =
    let (a, b) = rows_only (spelled rows) ms ns rows c h in (
      λ x. a (gets rows x),
      faults-keys (row_findings rows ms) (left_over rows ms) ∙ ap faults_of b
          ∙ sym (faults-keys (row_findings rows ns) (left_over rows ns)),
    )
