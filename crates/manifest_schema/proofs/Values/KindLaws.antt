-- Each kind satisfies the laws, where the kinds that it is made of do.
use Rattle.manifest_schema.specs.Prelude.{and_parts, cases_Bool, false≢true, none-some, same_Some, Data, float, string, integer, boolean, array, table, Items, no_items, item, Members, no_members, member, is_sorted, items_are_sorted, Text, Path, Cause, Step, index, key, wrong_kind, out_of_range, not_true, not_a_choice, has_entry, without, text, flag, within, whole, truth, choice, raw, plain, plain_items, plain_members, float_findings, item_floats, entry_floats, reads_items, written_items, good_items, list_of, item_findings, Entries, reads_entries, written_entries, good_entries, map_of, entry_findings, Inheritable, inherited, local, inherits, reads_inh, good_inh, inh, reads_split, written_split, good_split, split, tree_of, from_step, ends_here, left_out, left_out_items, left_out_members, unused_in, Finding, fault, found_here, found_under, unused_keys, faults_of, unused_of, found_paths, AllDiverge, IsFaultless, but_unused, Decided, AlikeBut, IsSound, IsPlain}
use Rattle.std.proofs.Common.{◌≡◌, ◌↔◌, ℕ, suc, ◌<◌, ◌≤◌, ℤ, Bool, true, false, ◌⊎◌, inl, inr, List, [], ◌∷◌, ◌++◌, Option, Some, None, IsTrue, if◌then◌else◌, codes, refl, sym, ap, ap₂, ◌∙◌, subst, true≢false, arith}
use Rattle.manifest_schema.specs.Kinds
use Rattle.manifest_schema.specs.Kinds.{is_truth, reads_text, reads_flag, reads_whole, reads_truth, reads_list, list_findings, reads_map, map_findings, written_inh, inh_findings, split_findings}
use Rattle.manifest_schema.proofs.Tables.TableLaws.{same_key-self, same_key-false}
use Rattle.manifest_schema.proofs.Tables.LeftOutLaws.{unused_at, at-under, at-other, at_first, at_second, bare_under, Inner, inner_append, inner_under, inner_keys, Stays, stays_append, stays_under, named_not_found, left-nothing, test-left, without-left, key_found, all_gone, InOrder, in_order, order_beside}
use Rattle.manifest_schema.proofs.Findings.Faultless.{no_nil, both_none, under_none, keys_none, but-append, but-under, but-keys, but-bare}
use Rattle.manifest_schema.proofs.Findings.Diverging.{DivergingBy, none_diverging, IndexFrom, item_diverging, KeyOf, HasKey, entry_diverging, entries_diverging, keys_diverging}

pub same : {P : Type 0} → P ↔ P
same = (λ a. a, λ a. a)

-- nothing in either list
pub nothing_under : (s : Step) {fs gs : List Finding} → fs ≡ [] → gs ≡ [] → found_under s fs ++ gs ≡ []
nothing_under s {fs} {gs} e h = rw e h

-- THE SAME WITHOUT THE UNUSED KEYS
abbrev pub TidyAt : {A : Type 0} → Kinds.Kind A → Data → Type 0
TidyAt K d = let e = left_out (unused_in K d) d in AlikeBut (K.reads e) (K.findings e) (K.reads d) (K.findings d)

-- where no key is unused
pub bare_tidy : {A : Type 0} (K : Kinds.Kind A) (d : Data) → unused_in K d ≡ [] → TidyAt K d
bare_tidy K d h = rw (h, left-nothing d) (λ x. same, sym (but-bare (K.findings d) h))

-- A SIMPLE KIND: each value has a reading and no finding, or no reading and one fault, at itself
abbrev pub ReadOrAlone : {A : Type 0} → Kinds.Kind A → Data → Type 0
ReadOrAlone {A} K d =
    ((K.findings d ≡ []) × ((x : A) × K.reads d x))
    ⊎ ((f : Cause × List Text) × (K.findings d ≡ fault [] f.0 f.1 ∷ []) × ((x : A) → K.reads d x → ⊥))

module _ {A : Type 0} (K : Kinds.Kind A) where
  alone_decided : (d : Data) → ReadOrAlone K d → Decided (K.findings d) (K.reads d)
  alone_decided d (inl a) = (λ e. a.1, λ x. ap faults_of a.0)
  alone_decided d (inr b) = (λ e. absurd (no_nil (sym (ap faults_of b.1) ∙ e)), λ x. absurd (b.2 x.0 x.1))

  alone_none : (d : Data) (x : A) → ReadOrAlone K d → K.reads d x → K.findings d ≡ []
  alone_none d x (inl a) r = a.0
  alone_none d x (inr b) r = absurd (b.2 x r)

  alone_bare : (d : Data) → ReadOrAlone K d → unused_in K d ≡ []
  alone_bare d (inl a) = ap unused_of a.0
  alone_bare d (inr b) = ap unused_of b.1

  alone_once : (d : Data) → ReadOrAlone K d → AllDiverge (found_paths (K.findings d))
  alone_once d (inl a) = rw a.0 tt
  alone_once d (inr b) = rw b.1 (tt, tt)

  pub simple : ((d : Data) (x y : A) → K.reads d x → K.reads d y → x ≡ y) → ((d : Data) → ReadOrAlone K d)
      → ((d : Data) (x : A) → K.reads d x → K.good x)
      → ((x : A) → K.good x → K.reads (K.written x) x) → IsSound K
  simple single cases well back = record {
    single = single;
    decided = λ d. alone_decided d (cases d);
    well = well;
    back = λ x g. (back x g, alone_none (K.written x) x (cases (K.written x)) (back x g));
    tidy = λ d s. bare_tidy K d (alone_bare d (cases d));
    inside = λ d. ap ends_here (alone_bare d (cases d));
    once = λ d s. alone_once d (cases d);
  }

-- TEXT
text_single : (d : Data) (x y : List ℕ) → reads_text d x → reads_text d y → x ≡ y
text_single (string s) x y a b = sym a ∙ b
text_single _ x y a b = absurd a

pub text_sound : IsSound text
text_sound =
    simple text text_single (elim [ string s ↦ inl (refl, (s, refl)) | _ ↦ inr ((wrong_kind, []), refl, λ x a. a) ])
    (λ d x a. tt) (λ x g. refl)

-- BOOLEAN
flag_single : (d : Data) (x y : Bool) → reads_flag d x → reads_flag d y → x ≡ y
flag_single (boolean s) x y a b = sym a ∙ b
flag_single _ x y a b = absurd a

pub flag_sound : IsSound flag
flag_sound =
    simple flag flag_single (elim [ boolean s ↦ inl (refl, (s, refl)) | _ ↦ inr ((wrong_kind, []), refl, λ x a. a) ])
    (λ d x a. tt) (λ x g. refl)

-- TRUE
pub truth_sound : IsSound truth
truth_sound =
    simple truth (λ d x y a b. refl)
    (elim [
      | boolean true ↦ inl (refl, (tt, tt))
      | boolean false ↦ inr ((not_true, []), refl, λ x a. a)
      | _ ↦ inr ((wrong_kind, []), refl, λ x a. a)
    ])
    (λ d x a. tt) (λ x g. tt)

-- WHOLE
module _ (low high : ℤ) where
  whole_single : (d : Data) (x y : ℤ) → reads_whole low high d x → reads_whole low high d y → x ≡ y
  whole_single (integer z) x y a b = sym a.0 ∙ b.0
  whole_single _ x y a b = absurd a

  whole_alone : (d : Data) → ReadOrAlone (whole low high) d
  whole_alone (integer z) = elim (cases_Bool (within low high z)) [
    | inl e ↦ inl (rw e refl, (z, (refl, e)))
    | inr e ↦ inr ((out_of_range, []), rw e refl, λ x a. true≢false (sym a.1 ∙ e))
  ]
  whole_alone _ = inr ((wrong_kind, []), refl, λ x a. a)

  whole_well : (d : Data) (x : ℤ) → reads_whole low high d x → IsTrue (within low high x)
  whole_well (integer z) x a = ap (within low high) (sym a.0) ∙ a.1
  whole_well _ x a = absurd a

  pub whole_sound : IsSound (whole low high)
  whole_sound = simple (whole low high) whole_single whole_alone whole_well (λ x g. (refl, g))

-- A CHOICE
module _ {A : Type 0} (words : List Text) (meaning : Data → Option A) (written : A → Data) where
  choice_alone : (d : Data) (o : Option A) → meaning d ≡ o → ReadOrAlone (choice words meaning written) d
  choice_alone d (Some x) e = inl (rw e refl, (x, e))
  choice_alone (string s) None e = inr ((not_a_choice, words), rw e refl, λ x a. none-some x (sym e ∙ a))
  choice_alone _ None e = inr ((wrong_kind, []), rw e refl, λ x a. none-some x (sym e ∙ a))

  pub choice_sound : ((x : A) → meaning (written x) ≡ Some x) → IsSound (choice words meaning written)
  choice_sound back =
      simple (choice words meaning written) (λ d x y a b. same_Some x y (sym a ∙ b))
      (λ d. choice_alone d (meaning d) refl) (λ d x a. tt) (λ x g. back x)

-- A LIST
module _ {A : Type 0} {K : Kinds.Kind A} (S : IsSound K) where
  items_single : (ds : Items) (xs ys : List A) → reads_items K ds xs → reads_items K ds ys → xs ≡ ys
  items_single no_items [] [] a b = refl
  items_single no_items [] (y ∷ ys) a b = absurd b
  items_single no_items (x ∷ xs) ys a b = absurd a
  items_single (item d ds) (x ∷ xs) (y ∷ ys) a b = λ i. S.single d x y a.0 b.0 i ∷ items_single ds xs ys a.1 b.1 i
  items_single (item d ds) (x ∷ xs) [] a b = absurd b
  items_single (item d ds) [] ys a b = absurd a

  items_read : (i : ℕ) (ds : Items) → IsFaultless (item_findings K.findings i ds) → (xs : List A) × reads_items K ds xs
  items_read i no_items e = ([], tt)
  items_read i (item d ds) e =
      let (own, more) = (both_none (found_under (index i) (K.findings d)) (item_findings K.findings (suc i) ds)).0 e in
      let (x, r) = (S.decided d).0 ((under_none (index i) (K.findings d)).0 own) in
      let (xs, rs) = items_read (suc i) ds more in
      (x ∷ xs, (r, rs))

  items_fit : (i : ℕ) (ds : Items) (xs : List A) → reads_items K ds xs → IsFaultless (item_findings K.findings i ds)
  items_fit i no_items xs a = refl
  items_fit i (item d ds) [] a = absurd a
  items_fit i (item d ds) (x ∷ xs) a =
      (both_none (found_under (index i) (K.findings d)) (item_findings K.findings (suc i) ds)).1
      ((under_none (index i) (K.findings d)).1 ((S.decided d).1 (x, a.0)), items_fit (suc i) ds xs a.1)

  items_well : (ds : Items) (xs : List A) → reads_items K ds xs → good_items K xs
  items_well no_items [] a = tt
  items_well no_items (x ∷ xs) a = absurd a
  items_well (item d ds) [] a = absurd a
  items_well (item d ds) (x ∷ xs) a = (S.well d x a.0, items_well ds xs a.1)

  items_back : (i : ℕ) (xs : List A) → good_items K xs
      → reads_items K (written_items K xs) xs × (item_findings K.findings i (written_items K xs) ≡ [])
  items_back i [] g = (tt, refl)
  items_back i (x ∷ xs) g =
      let (r, e) = S.back x g.0 in
      let (rs, es) = items_back (suc i) xs g.1 in
      ((r, rs), nothing_under (index i) e es)

  pub none_before : (i j : ℕ) (ds : Items) → i < j → unused_at (index i) (item_findings K.findings j ds) ≡ []
  none_before i j no_items h = refl
  none_before i j (item d ds) h =
      at_second (index i) (found_under (index j) (K.findings d)) (item_findings K.findings (suc j) ds)
      (at-other (index i) (index j) (K.findings d) (grind (arith, h))) ∙ none_before i (suc j) ds (omega (arith, h))

  -- by paths that go by the indices from i on as those of these items do
  items_tidy : (ps : List Path) (i : ℕ) (ds : Items)
      → ((j : ℕ) → i ≤ j → from_step (index j) ps ≡ unused_at (index j) (item_findings K.findings i ds))
      → items_are_sorted ds ≡ true
      → let es = left_out_items ps i ds in
      AlikeBut (reads_items K es) (item_findings K.findings i es) (reads_items K ds) (item_findings K.findings i ds)
  items_tidy ps i no_items g s = (λ x. same, refl)
  items_tidy ps i (item d ds) g s =
      let (own, more) = and_parts (is_sorted d) (items_are_sorted ds) s in
      let first = found_under (index i) (K.findings d) in
      let rest = item_findings K.findings (suc i) ds in
      let here : from_step (index i) ps ≡ unused_in K d = g i (omega arith) ∙ at_first (index i) first rest
      (none_before i (suc i) ds (omega arith)) ∙ at-under (index i) (index i) (K.findings d) (grind (arith)) in
      let (a, b) =
      items_tidy ps (suc i) ds
      (λ j h. g j (omega (arith, h))
      ∙ at_second (index j) first rest (at-other (index j) (index i) (K.findings d) (grind (arith, h)))) more in
      let e = left_out (from_step (index i) ps) d in
      let t : AlikeBut (K.reads e) (K.findings e) (K.reads d) (K.findings d) = rw here (S.tidy d own) in (
        elim [ [] ↦ same | x ∷ xs ↦ (λ h. ((t.0 x).0 h.0, (a xs).0 h.1), λ h. ((t.0 x).1 h.0, (a xs).1 h.1)) ],
        ap₂ (λ fs gs. found_under (index i) fs ++ gs) t.1 b
            ∙ sym (but-append first rest ∙ ap (λ fs. fs ++ but_unused rest) (but-under (index i) (K.findings d))),
      )

  items_inner : (i : ℕ) (ds : Items) → Inner (item_findings K.findings i ds)
  items_inner i no_items = refl
  items_inner i (item d ds) = inner_append (found_under (index i) (K.findings d)) (item_findings K.findings (suc i) ds)
      (inner_under (index i) (K.findings d)) (items_inner (suc i) ds)

  items_once : (i : ℕ) (ds : Items) → items_are_sorted ds ≡ true
      → DivergingBy (IndexFrom i) (item_findings K.findings i ds)
  items_once i no_items s = none_diverging
  items_once i (item d ds) s =
      let (own, more) = and_parts (is_sorted d) (items_are_sorted ds) s in
      item_diverging i (K.findings d) (S.once d own) (items_once (suc i) ds more)

  list_single : (d : Data) (xs ys : List A) → reads_list K d xs → reads_list K d ys → xs ≡ ys
  list_single (array ds) xs ys a b = items_single ds xs ys a b
  list_single _ xs ys a b = absurd a

  list_well : (d : Data) (xs : List A) → reads_list K d xs → good_items K xs
  list_well (array ds) xs a = items_well ds xs a
  list_well _ xs a = absurd a

  pub list_sound : IsSound (list_of K)
  list_sound = record {
    single = list_single;
    decided =
        elim [
          | array ds ↦ (λ e. items_read 0 ds e, λ a. items_fit 0 ds a.0 a.1)
          | _ ↦ (λ e. absurd (no_nil e), λ a. absurd a.1)
        ];
    well = list_well;
    back = items_back 0;
    tidy = elim [
      | array ds ↦ λ s. items_tidy (unused_of (item_findings K.findings 0 ds)) 0 ds (λ j h. refl) s
      | _ ↦ λ s. (λ x. same, refl)
    ];
    inside = elim [ array ds ↦ items_inner 0 ds | _ ↦ refl ];
    once = elim [ array ds ↦ λ s. (items_once 0 ds s).diverge | _ ↦ λ s. (tt, tt) ];
  }

-- A MAP
pub none_beside : {A : Type 0} (K : Kinds.Kind A) (k : Text) (ms : Members) → ((d : Data) → has_entry k d ms → ⊥)
    → unused_at (key k) (entry_findings K.findings ms) ≡ []
none_beside K k no_members none = refl
none_beside K k (member l d ms) none =
    at_second (key k) (found_under (key l) (K.findings d)) (entry_findings K.findings ms)
    (at-other (key k) (key l) (K.findings d) (same_key-false k l (λ e. none d (inl (e, refl)))))
    ∙ none_beside K k ms (λ e there. none e (inr there))

module _ {A : Type 0} {K : Kinds.Kind A} (S : IsSound K) where
  pub entries_single : (ms : Members) (xs ys : Entries A) → reads_entries K ms xs → reads_entries K ms ys → xs ≡ ys
  entries_single no_members [] [] a b = refl
  entries_single no_members [] (y ∷ ys) a b = absurd b
  entries_single no_members (x ∷ xs) ys a b = absurd a
  entries_single (member k d ms) (x ∷ xs) (y ∷ ys) a b =
      λ i. ((sym a.0 ∙ b.0) i, S.single d x.1 y.1 a.1 b.1 i) ∷ entries_single ms xs ys a.2 b.2 i
  entries_single (member k d ms) (x ∷ xs) [] a b = absurd b
  entries_single (member k d ms) [] ys a b = absurd a

  entries_read : (ms : Members) → IsFaultless (entry_findings K.findings ms) → (xs : Entries A) × reads_entries K ms xs
  entries_read no_members e = ([], tt)
  entries_read (member k d ms) e =
      let (own, more) = (both_none (found_under (key k) (K.findings d)) (entry_findings K.findings ms)).0 e in
      let (x, r) = (S.decided d).0 ((under_none (key k) (K.findings d)).0 own) in
      let (xs, rs) = entries_read ms more in
      ((k, x) ∷ xs, (refl, r, rs))

  entries_fit : (ms : Members) (xs : Entries A) → reads_entries K ms xs → IsFaultless (entry_findings K.findings ms)
  entries_fit no_members xs a = refl
  entries_fit (member k d ms) [] a = absurd a
  entries_fit (member k d ms) (x ∷ xs) a =
      (both_none (found_under (key k) (K.findings d)) (entry_findings K.findings ms)).1
      ((under_none (key k) (K.findings d)).1 ((S.decided d).1 (x.1, a.1)), entries_fit ms xs a.2)

  pub entries_decided : (ms : Members) → Decided (entry_findings K.findings ms) (reads_entries K ms)
  entries_decided ms = (entries_read ms, λ a. entries_fit ms a.0 a.1)

  pub entries_well : (ms : Members) (xs : Entries A) → reads_entries K ms xs → good_entries K xs
  entries_well no_members [] a = tt
  entries_well no_members (x ∷ xs) a = absurd a
  entries_well (member k d ms) [] a = absurd a
  entries_well (member k d ms) (x ∷ xs) a = (S.well d x.1 a.1, entries_well ms xs a.2)

  pub entries_back : (xs : Entries A) → good_entries K xs
      → reads_entries K (written_entries K xs) xs × (entry_findings K.findings (written_entries K xs) ≡ [])
  entries_back [] g = (tt, refl)
  entries_back (x ∷ xs) g =
      let (r, e) = S.back x.1 g.0 in
      let (rs, es) = entries_back xs g.1 in
      ((refl, r, rs), nothing_under (key x.0) e es)

  -- by paths that go by the keys as those of these entries do
  pub entries_tidy : (ps : List Path) (ms : Members)
      → ((k : Text) (d : Data) → has_entry k d ms
      → from_step (key k) ps ≡ unused_at (key k) (entry_findings K.findings ms)) → InOrder ms
      → let ns = left_out_members ps ms in
      AlikeBut (reads_entries K ns) (entry_findings K.findings ns) (reads_entries K ms)
      (entry_findings K.findings ms)
  entries_tidy ps no_members g s = (λ x. same, refl)
  entries_tidy ps (member k d ms) g s =
      let first = found_under (key k) (K.findings d) in
      let rest = entry_findings K.findings ms in
      let here : from_step (key k) ps ≡ unused_in K d = g k d (inl (refl, refl)) ∙ at_first (key k) first rest
      (none_beside K k ms s.0) ∙ at-under (key k) (key k) (K.findings d) (same_key-self k) in
      let other : (l : Text) (e : Data) → has_entry l e ms → l ≡ k → ⊥ = λ l e h tie. s.0 e
      (subst (λ j. has_entry j e ms) tie h) in
      let (a, b) =
      entries_tidy ps ms
      (λ l e h. g l e (inr h)
      ∙ at_second (key l) first rest
      (at-other (key l) (key k) (K.findings d) (same_key-false l k (other l e h)))) s.2 in
      let (c, e) = S.tidy d s.1 in
      rw (here, S.inside d) (
        elim [
          | [] ↦ same
          | x ∷ xs ↦ (λ h. (h.0, (c x.1).0 h.1, (a xs).0 h.2), λ h. (h.0, (c x.1).1 h.1, (a xs).1 h.2))
        ],
        ap₂ (λ fs gs. found_under (key k) fs ++ gs) e b
            ∙ sym (but-append first rest ∙ ap (λ fs. fs ++ but_unused rest) (but-under (key k) (K.findings d))),
      )

  pub entries_inner : (ms : Members) → Inner (entry_findings K.findings ms)
      × ((k : Text) → Stays (key k) (entry_findings K.findings ms))
  entries_inner no_members = (refl, λ k. refl)
  entries_inner (member l d ms) =
      let first = found_under (key l) (K.findings d) in
      let (a, b) = entries_inner ms in (
        inner_append first (entry_findings K.findings ms) (inner_under (key l) (K.findings d)) a,
        λ k. stays_append (key k) first (entry_findings K.findings ms)
            (stays_under (key k) (key l) (K.findings d) (S.inside d)) (b k),
      )

  map_single : (d : Data) (xs ys : Entries A) → reads_map K d xs → reads_map K d ys → xs ≡ ys
  map_single (table ms) xs ys a b = entries_single ms xs ys a b
  map_single _ xs ys a b = absurd a

  map_well : (d : Data) (xs : Entries A) → reads_map K d xs → good_entries K xs
  map_well (table ms) xs a = entries_well ms xs a
  map_well _ xs a = absurd a

  pub map_sound : IsSound (map_of K)
  map_sound = record {
    single = map_single;
    decided = elim [ table ms ↦ entries_decided ms | _ ↦ (λ e. absurd (no_nil e), λ a. absurd a.1) ];
    well = map_well;
    back = entries_back;
    tidy = elim [
      | table ms ↦ λ s. entries_tidy (unused_of (entry_findings K.findings ms)) ms (λ k d h. refl)
          (in_order ms s)
      | _ ↦ λ s. (λ x. same, refl)
    ];
    inside = elim [ table ms ↦ (entries_inner ms).0 | _ ↦ refl ];
    once = elim [
      | table ms ↦ λ s. (entries_diverging K.findings S.once ms (in_order ms s)).diverge
      | _ ↦ λ s. (tt, tt)
    ];
  }

  -- METADATA: of a kind, by what it writes
  pub tree_sound : IsSound (tree_of K)
  tree_sound = record {
    single = λ d x y a b. sym a.2 ∙ ap K.written (S.single d a.0 b.0 a.1 b.1) ∙ b.2;
    decided =
        λ d. (λ e. let (x, r) = (S.decided d).0 e in (K.written x, (x, r, refl)), λ a. (S.decided d).1 (a.1.0, a.1.1));
    well = λ d x a. (a.0, S.well d a.0 a.1, a.2);
    back = λ x g. let (r, e) = S.back g.0 g.1 in ((g.0, rw (← g.2) r, g.2), subst (λ d. K.findings d ≡ []) g.2 e);
    tidy = λ d s. let (c, e) = S.tidy d s in (λ x. (λ h. (h.0, (c h.0).0 h.1, h.2), λ h. (h.0, (c h.0).1 h.1, h.2)), e);
    inside = S.inside;
    once = S.once;
  }

-- PLAIN: a kind that reads no table writes none
pub plain_from : {A : Type 0} {K : Kinds.Kind A} → IsSound K → ((ms : Members) (x : A) → K.reads (table ms) x → ⊥)
    → ((x : A) → K.good x) → IsPlain K
plain_from {K = K} S none good = record {
  no_table = none;
  writes_no_table = λ ms x e. none ms x (rw e at ((S.back x (good x)).0));
  all_good = good;
}

-- WHAT MAY BE INHERITED: a table inherits as before where its `workspace` stays, and where it did not inherit
pub inherits-left : (ps : List Path) (ms : Members) → (ends_here (from_step (key (codes "workspace")) ps) ≡ false)
    ⊎ (inherits (table ms) ≡ false) → inherits (table (left_out_members ps ms)) ≡ inherits (table ms)
inherits-left ps ms h = test-left is_truth refl (λ ps. elim [ boolean b ↦ refl | _ ↦ refl ]) ps (codes "workspace") ms h

-- what is found next to `workspace`, by whether the table inherits
abbrev beside : Bool → Members → List Finding
beside b ms = if b then unused_keys (without (codes "workspace" ∷ []) ms) else found_here wrong_kind

beside_once : (b : Bool) (ms : Members) → InOrder ms → AllDiverge (found_paths (beside b ms))
beside_once true ms s =
    (keys_diverging (without (codes "workspace" ∷ []) ms) (order_beside (codes "workspace" ∷ []) ms s)).diverge
beside_once false ms s = (tt, tt)

module _ {A : Type 0} {K : Kinds.Kind A} (S : IsSound K) where
  header_read : (ms : Members) (b : Bool) → inherits (table ms) ≡ b → IsFaultless (beside b ms)
      → (x : Inheritable A) × reads_inh K (table ms) x
  header_read ms true h e = (inherited, h)
  header_read ms false h e = absurd (no_nil e)

  pub inh_read : (d : Data) → IsFaultless (inh_findings K.findings d) → (x : Inheritable A) × reads_inh K d x
  inh_read (table ms) e = header_read ms (inherits (table ms)) refl e
  inh_read d e = let (x, r) = (S.decided d).0 e in (local x, r)

  pub inh_once : (d : Data) → is_sorted d ≡ true → AllDiverge (found_paths (inh_findings K.findings d))
  inh_once (table ms) s = beside_once (inherits (table ms)) ms (in_order ms s)
  inh_once d s = S.once d s

module _ {A : Type 0} {K : Kinds.Kind A} (S : IsSound K) (N : IsPlain K) where
  no_other : (d : Data) (x : A) → K.reads d x → inherits d ≡ true → ⊥
  no_other (table ms) x a e = N.no_table ms x a
  no_other _ x a e = false≢true e

  inh_single : (d : Data) (x y : Inheritable A) → reads_inh K d x → reads_inh K d y → x ≡ y
  inh_single d inherited inherited a b = refl
  inh_single d inherited (local y) a b = absurd (no_other d y b a)
  inh_single d (local x) inherited a b = absurd (no_other d x a b)
  inh_single d (local x) (local y) a b = ap local (S.single d x y a b)

  inh_fits : (d : Data) (x : Inheritable A) → reads_inh K d x → IsFaultless (inh_findings K.findings d)
  inh_fits (table ms) inherited a = rw a (keys_none (without (codes "workspace" ∷ []) ms))
  inh_fits (table ms) (local x) a = absurd (N.no_table ms x a)
  inh_fits d inherited a = absurd (false≢true a)
  inh_fits d (local x) a = (S.decided d).1 (x, a)

  inh_well : (d : Data) (x : Inheritable A) → reads_inh K d x → good_inh K x
  inh_well d inherited a = tt
  inh_well d (local x) a = S.well d x a

  own_clean : (d : Data) → ((ms : Members) → d ≡ table ms → ⊥) → K.findings d ≡ [] → inh_findings K.findings d ≡ []
  own_clean (table ms) none e = absurd (none ms refl)
  own_clean _ none e = e

  inh_back : (x : Inheritable A) → good_inh K x
      → reads_inh K (written_inh K x) x × (inh_findings K.findings (written_inh K x) ≡ [])
  inh_back inherited g = (refl, refl)
  inh_back (local x) g = let (r, e) = S.back x g in (r, own_clean (K.written x) (λ ms. N.writes_no_table ms x) e)

  beside_inner : (b : Bool) (ms : Members) → Inner (beside b ms) × Stays (key (codes "workspace")) (beside b ms)
  beside_inner true ms = (
    inner_keys (without (codes "workspace" ∷ []) ms),
    ap ends_here
        (named_not_found (codes "workspace" ∷ []) (codes "workspace") ms refl),
  )
  beside_inner false ms = (refl, refl)

  -- without the other keys nothing is found next to `workspace`
  beside_tidy : (b : Bool) (ms : Members)
      → beside b (left_out_members (unused_of (beside b ms)) ms) ≡ but_unused (beside b ms)
  beside_tidy true ms =
      let named = codes "workspace" ∷ [] in
      let ns = without named ms in
      let ps = unused_of (unused_keys ns) in
      ap unused_keys (without-left ps named ms ∙ all_gone ps ns (λ k d h. key_found k d ns h)) ∙ sym (but-keys ns)
  beside_tidy false ms = refl

  inh_tidy : (d : Data) → is_sorted d ≡ true → TidyAt (inh K) d
  inh_tidy (table ms) s =
      let ps = unused_in (inh K) (table ms) in
      let e : inherits (table (left_out_members ps ms)) ≡ inherits (table ms) =
      inherits-left ps ms (inl (beside_inner (inherits (table ms)) ms).1) in (
        elim [
          | inherited ↦ rw e same
          | local x ↦ (λ a. absurd (N.no_table (left_out_members ps ms) x a), λ a. absurd (N.no_table ms x a))
        ],
        ap (λ b. beside b (left_out_members ps ms)) e ∙ beside_tidy (inherits (table ms)) ms,
      )
  inh_tidy d s = let (c, e) = S.tidy d s in (elim [ inherited ↦ same | local x ↦ c x ], e)

  pub inh_sound : IsSound (inh K)
  inh_sound = record {
    single = inh_single;
    decided = λ d. (inh_read S d, λ a. inh_fits d a.0 a.1);
    well = inh_well;
    back = inh_back;
    tidy = inh_tidy;
    inside = elim [ table ms ↦ (beside_inner (inherits (table ms)) ms).0 | d ↦ S.inside d ];
    once = inh_once S;
  }

-- ONE OF TWO KINDS: a content is one of the two, and they are distinguished by what is written of them
pub record IsSplit {A B C : Type 0} (test : Data → Bool) (K : Kinds.Kind A) (M : Kinds.Kind B) (side : C → A ⊎ B) :
    Type 0 where
  pub from : A ⊎ B → C
  pub there : (y : A ⊎ B) → side (from y) ≡ y
  pub back : (x : C) → from (side x) ≡ x
  pub first : (x : A) → K.good x → test (K.written x) ≡ true
  pub second : (x : B) → M.good x → test (M.written x) ≡ false
  -- the test tells the same without the keys that nothing reads
  pub keeps : (d : Data) → test (left_out (unused_of (split_findings K.findings M.findings (test d) d)) d) ≡ test d

module _ {A B : Type 0} {K : Kinds.Kind A} {M : Kinds.Kind B} (k : IsSound K) (m : IsSound M) where
  split_single : (t : Bool) (d : Data) (x y : A ⊎ B) → reads_split K M t d x → reads_split K M t d y → x ≡ y
  split_single true d (inl x) (inl y) a b = ap inl (k.single d x y a b)
  split_single true d (inl x) (inr y) a b = absurd b
  split_single true d (inr x) y a b = absurd a
  split_single false d (inr x) (inr y) a b = ap inr (m.single d x y a b)
  split_single false d (inr x) (inl y) a b = absurd b
  split_single false d (inl x) y a b = absurd a

  split_decided : (t : Bool) (d : Data) → Decided (split_findings K.findings M.findings t d) (reads_split K M t d)
  split_decided true d = (λ e. let (x, r) = (k.decided d).0 e in (inl x, r), λ a. fits a.0 a.1)
    where
      fits : (y : A ⊎ B) → reads_split K M true d y → IsFaultless (K.findings d)
      fits (inl x) a = (k.decided d).1 (x, a)
      fits (inr x) a = absurd a
  split_decided false d = (λ e. let (x, r) = (m.decided d).0 e in (inr x, r), λ a. fits a.0 a.1)
    where
      fits : (y : A ⊎ B) → reads_split K M false d y → IsFaultless (M.findings d)
      fits (inl x) a = absurd a
      fits (inr x) a = (m.decided d).1 (x, a)

  split_well : (t : Bool) (d : Data) (x : A ⊎ B) → reads_split K M t d x → good_split K M x
  split_well true d (inl x) a = k.well d x a
  split_well true d (inr x) a = absurd a
  split_well false d (inl x) a = absurd a
  split_well false d (inr x) a = m.well d x a

  split_tidy : (b : Bool) (d : Data) → is_sorted d ≡ true
      → let e = left_out (unused_of (split_findings K.findings M.findings b d)) d in
      AlikeBut (reads_split K M b e) (split_findings K.findings M.findings b e) (reads_split K M b d)
      (split_findings K.findings M.findings b d)
  split_tidy true d s = let (c, e) = k.tidy d s in (elim [ inl x ↦ c x | inr x ↦ same ], e)
  split_tidy false d s = let (c, e) = m.tidy d s in (elim [ inl x ↦ same | inr x ↦ c x ], e)

  split_inside : (b : Bool) (d : Data) → Inner (split_findings K.findings M.findings b d)
  split_inside true d = k.inside d
  split_inside false d = m.inside d

  split_once : (b : Bool) (d : Data) → is_sorted d ≡ true
      → AllDiverge (found_paths (split_findings K.findings M.findings b d))
  split_once true d s = k.once d s
  split_once false d s = m.once d s

  module _ {C : Type 0} {test : Data → Bool} {side : C → A ⊎ B} (s : IsSplit test K M side) where
    sides_back : (y : A ⊎ B) → good_split K M y → let d = written_split K M y in
        reads_split K M (test d) d y × (split_findings K.findings M.findings (test d) d ≡ [])
    sides_back (inl x) g = rw (s.first x g) (k.back x g)
    sides_back (inr x) g = rw (s.second x g) (m.back x g)

    pub split_sound : IsSound (split test K M side)
    split_sound = record {
      single = λ d x y a b. sym (s.back x) ∙ ap s.from (split_single (test d) d (side x) (side y) a b) ∙ s.back y;
      decided =
          λ d. let (there, back) = split_decided (test d) d in
          (λ e. let (y, r) = there e in (s.from y, rw (s.there y) r), λ a. back (side a.0, a.1));
      well = λ d x a. split_well (test d) d (side x) a;
      back = λ x g. sides_back (side x) g;
      tidy = λ d h. let (a, b) = split_tidy (test d) d h in rw (s.keeps d) (λ x. a (side x), b);
      inside = λ d. split_inside (test d) d;
      once = λ d. split_once (test d) d;
    }

-- KEPT
mutual
  kept_bare : (d : Data) → unused_in raw d ≡ []
  kept_bare (array ds) = kept_items_bare 0 ds
  kept_bare (table ms) = kept_entries_bare ms
  kept_bare _ = refl

  kept_items_bare : (i : ℕ) (ds : Items) → unused_of (item_floats i ds) ≡ []
  kept_items_bare i no_items = refl
  kept_items_bare i (item d ds) =
      bare_under (index i) (float_findings d) (item_floats (suc i) ds) (kept_bare d) (kept_items_bare (suc i) ds)

  kept_entries_bare : (ms : Members) → unused_of (entry_floats ms) ≡ []
  kept_entries_bare no_members = refl
  kept_entries_bare (member k d ms) =
      bare_under (key k) (float_findings d) (entry_floats ms) (kept_bare d) (kept_entries_bare ms)

mutual
  kept_clean : (d : Data) → plain d ≡ true → float_findings d ≡ []
  kept_clean (float x) g = absurd (true≢false (sym g))
  kept_clean (array ds) g = kept_items_clean 0 ds g
  kept_clean (table ms) g = kept_entries_clean ms g
  kept_clean _ g = refl

  kept_items_clean : (i : ℕ) (ds : Items) → plain_items ds ≡ true → item_floats i ds ≡ []
  kept_items_clean i no_items g = refl
  kept_items_clean i (item d ds) g =
      let (first, more) = and_parts (plain d) (plain_items ds) g in
      nothing_under (index i) (kept_clean d first) (kept_items_clean (suc i) ds more)

  kept_entries_clean : (ms : Members) → plain_members ms ≡ true → entry_floats ms ≡ []
  kept_entries_clean no_members g = refl
  kept_entries_clean (member k d ms) g =
      let (first, more) = and_parts (plain d) (plain_members ms) g in
      nothing_under (key k) (kept_clean d first) (kept_entries_clean ms more)

mutual
  kept_plain : (d : Data) → IsFaultless (float_findings d) → plain d ≡ true
  kept_plain (float x) e = absurd (no_nil e)
  kept_plain (array ds) e = kept_items_plain 0 ds e
  kept_plain (table ms) e = kept_entries_plain ms e
  kept_plain _ e = refl

  kept_items_plain : (i : ℕ) (ds : Items) → IsFaultless (item_floats i ds) → plain_items ds ≡ true
  kept_items_plain i no_items e = refl
  kept_items_plain i (item d ds) e =
      let (own, more) = (both_none (found_under (index i) (float_findings d)) (item_floats (suc i) ds)).0 e in
      rw (kept_plain d ((under_none (index i) (float_findings d)).0 own)) (kept_items_plain (suc i) ds more)

  kept_entries_plain : (ms : Members) → IsFaultless (entry_floats ms) → plain_members ms ≡ true
  kept_entries_plain no_members e = refl
  kept_entries_plain (member k d ms) e =
      let (own, more) = (both_none (found_under (key k) (float_findings d)) (entry_floats ms)).0 e in
      rw (kept_plain d ((under_none (key k) (float_findings d)).0 own)) (kept_entries_plain ms more)

mutual
  kept_once : (d : Data) → is_sorted d ≡ true → AllDiverge (found_paths (float_findings d))
  kept_once (array ds) s = (kept_items_once 0 ds s).diverge
  kept_once (table ms) s = (kept_entries_once ms (in_order ms s)).diverge
  kept_once (float x) s = (tt, tt)
  kept_once _ s = tt

  kept_items_once : (i : ℕ) (ds : Items) → items_are_sorted ds ≡ true → DivergingBy (IndexFrom i) (item_floats i ds)
  kept_items_once i no_items s = none_diverging
  kept_items_once i (item d ds) s =
      let (own, more) = and_parts (is_sorted d) (items_are_sorted ds) s in
      item_diverging i (float_findings d) (kept_once d own) (kept_items_once (suc i) ds more)

  kept_entries_once : (ms : Members) → InOrder ms → DivergingBy (KeyOf (HasKey ms)) (entry_floats ms)
  kept_entries_once no_members s = none_diverging
  kept_entries_once (member k d ms) s =
      entry_diverging k d ms (float_findings d) s.0 (kept_once d s.1) (kept_entries_once ms s.2)

pub raw_sound : IsSound raw
raw_sound = record {
  single = λ d x y a b. sym a.0 ∙ b.0;
  decided = λ d. (λ e. (d, (refl, kept_plain d e)), λ a. ap faults_of (kept_clean d a.1.1));
  well = λ d x a. rw (← a.0) a.1;
  back = λ x g. ((refl, g), kept_clean x g);
  tidy = λ d s. bare_tidy raw d (kept_bare d);
  inside = λ d. ap ends_here (kept_bare d);
  once = kept_once;
}
