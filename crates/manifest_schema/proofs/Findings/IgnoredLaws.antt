-- Nothing is ignored but badges that do not fit.
use Rattle.manifest_schema.specs.Prelude.{append-nil, none-some, same_Some, Data, string, integer, float, boolean, array, table, Items, no_items, item, Members, no_members, member, get_member, Text, Path, Cause, Step, wrong_kind, out_of_range, key, under, Spellings, only, Slot, absent, one, clash, slot, at, without, Kind, text, flag, truth, whole, choice, raw, list_of, map_of, inh, inherits, split, tree_of, Need, required, optional, default, Rows, no_more, others, ◌⨾◌, findings_beside, row_findings, left_over, spelled, form, Finding, fault, ignored, unused, found_here, found_under, free_findings, unused_keys, ignored_of, among, item_findings, entry_findings, has_header, old_findings, findings_by, dependency, lint, inherited_rows, detailed_rows, lint_rows, product_rows, badge_rows, maintenance_rows, badges_rows, profile_rows, profiles_rows, lints_rows, platform_rows, package_rows, workspace_package_rows, workspace_rows, manifest_rows}
use Rattle.std.proofs.Common.{◌≡◌, ◌⊎◌, ◌↔◌, ℕ, ℤ, zero, suc, Bool, true, false, inl, inr, List, [], ◌∷◌, ◌++◌, Option, Some, None, is_some, if◌then◌else◌, codes, refl, sym, ap, ◌∙◌, subst}
use Rattle.manifest_schema.specs.Kinds.{within, float_findings, item_floats, entry_floats, no_word_findings, split_findings}
use Rattle.manifest_schema.specs.Pins.{IgnoresNothing, badge_keys, unfit_badge, IgnoresBadgesAlone}
use Rattle.manifest_schema.proofs.Findings.Pinned.{strict_under, lenient_optional_ignores, lenient_default_ignores}

-- LISTS
ignored-append : (fs gs : List Finding) → ignored_of (fs ++ gs) ≡ ignored_of fs ++ ignored_of gs
ignored-append [] gs = refl
ignored-append (fault p c ws ∷ fs) gs = ignored-append fs gs
ignored-append (ignored p c ws ∷ fs) gs = ap (λ t. (p, c) ∷ t) (ignored-append fs gs)
ignored-append (unused p ∷ fs) gs = ignored-append fs gs

ignored-keys : (ms : Members) → ignored_of (unused_keys ms) ≡ []
ignored-keys no_members = refl
ignored-keys (member k d ms) = ignored-keys ms

-- where nothing is ignored first, what is ignored is what is ignored then
then_ignored : (fs gs : List Finding) → ignored_of fs ≡ [] → ignored_of (fs ++ gs) ≡ ignored_of gs
then_ignored fs gs e = ignored-append fs gs ∙ ap (λ t. t ++ ignored_of gs) e

both_strict : (fs gs : List Finding) → ignored_of fs ≡ [] → ignored_of gs ≡ [] → ignored_of (fs ++ gs) ≡ []
both_strict fs gs a b = then_ignored fs gs a ∙ b

-- KINDS of which nothing is ignored
record IsStrict {A : Type 0} (K : Kind A) : Type 0 where
  strict : IgnoresNothing K

text_strict : IsStrict text
text_strict = record { strict = elim [ string s ↦ refl | _ ↦ refl ] }

flag_strict : IsStrict flag
flag_strict = record { strict = elim [ boolean b ↦ refl | _ ↦ refl ] }

truth_strict : IsStrict truth
truth_strict = record { strict = elim [ boolean true ↦ refl | boolean false ↦ refl | _ ↦ refl ] }

whole_strict : (low high : ℤ) → IsStrict (whole low high)
whole_strict low high = record { strict = elim [ integer z ↦ in_range (within low high z) | _ ↦ refl ] }
  where
    in_range : (b : Bool) → ignored_of (if b then [] else found_here out_of_range) ≡ []
    in_range true = refl
    in_range false = refl

choice_strict : {A : Type 0} (words : List Text) (meaning : Data → Option A) (written : A → Data)
    → IsStrict (choice words meaning written)
choice_strict words meaning written = record { strict = λ d. by_meaning (is_some (meaning d)) d }
  where
    no_word : (d : Data) → ignored_of (no_word_findings words d) ≡ []
    no_word (string s) = refl
    no_word _ = refl

    by_meaning : (b : Bool) (d : Data) → ignored_of (if b then [] else no_word_findings words d) ≡ []
    by_meaning true d = refl
    by_meaning false d = no_word d

mutual
  floats_strict : (d : Data) → ignored_of (float_findings d) ≡ []
  floats_strict (float x) = refl
  floats_strict (array ds) = item_floats_strict 0 ds
  floats_strict (table ms) = entry_floats_strict ms
  floats_strict _ = refl

  item_floats_strict : (i : ℕ) (ds : Items) → ignored_of (item_floats i ds) ≡ []
  item_floats_strict i no_items = refl
  item_floats_strict i (item d ds) =
      search (both_strict, strict_under, floats_strict d, item_floats_strict (suc i) ds)

  entry_floats_strict : (ms : Members) → ignored_of (entry_floats ms) ≡ []
  entry_floats_strict no_members = refl
  entry_floats_strict (member k d ms) =
      search (both_strict, strict_under, floats_strict d, entry_floats_strict ms)

raw_strict : IsStrict raw
raw_strict = record { strict = floats_strict }

module _ {A : Type 0} {K : Kind A} (k : IsStrict K) where
  items_strict : (i : ℕ) (ds : Items) → ignored_of (item_findings K.findings i ds) ≡ []
  items_strict i no_items = refl
  items_strict i (item d ds) =
      search (both_strict, strict_under, k.strict d, items_strict (suc i) ds)

  list_strict : IsStrict (list_of K)
  list_strict = record { strict = elim [ array ds ↦ items_strict 0 ds | _ ↦ refl ] }

  entries_strict : (ms : Members) → ignored_of (entry_findings K.findings ms) ≡ []
  entries_strict no_members = refl
  entries_strict (member l d ms) = search (both_strict, strict_under, k.strict d, entries_strict ms)

  map_strict : IsStrict (map_of K)
  map_strict = record { strict = elim [ table ms ↦ entries_strict ms | _ ↦ refl ] }

  inh_strict : IsStrict (inh K)
  inh_strict = record { strict = elim [ table ms ↦ by_table (inherits (table ms)) ms | d ↦ k.strict d ] }
    where
      by_table : (b : Bool) (ms : Members)
          → ignored_of (if b then unused_keys (without (codes "workspace" ∷ []) ms) else found_here wrong_kind) ≡ []
      by_table true ms = ignored-keys (without (codes "workspace" ∷ []) ms)
      by_table false ms = refl

  tree_strict : IsStrict (tree_of K)
  tree_strict = record { strict = k.strict }

split_strict : {A B C : Type 0} {K : Kind A} {M : Kind B} (test : Data → Bool) (side : C → A ⊎ B)
    → IsStrict K → IsStrict M → IsStrict (split test K M side)
split_strict {K = K} {M = M} test side k m = record { strict = λ d. by_test (test d) d }
  where
    by_test : (b : Bool) (d : Data) → ignored_of (split_findings K.findings M.findings b d) ≡ []
    by_test true d = k.strict d
    by_test false d = m.strict d

-- NEEDS
record IsStrictNeed {C : Type 0} (n : Need C) : Type 0 where
  strict : (names : Spellings) (s : Slot) → ignored_of (n.findings names s) ≡ []

module _ {A : Type 0} {K : Kind A} (k : IsStrict K) where
  slot_strict : (names : Spellings) (s : Slot) → ignored_of (free_findings names K.findings s) ≡ []
  slot_strict names absent = refl
  slot_strict names clash = refl
  slot_strict names (one l d) = strict_under (key l) (K.findings d) (k.strict d)

  required_strict : IsStrictNeed (required K)
  required_strict = record { strict = λ names. elim [ absent ↦ refl | s ↦ slot_strict names s ] }

  optional_strict : IsStrictNeed (optional K)
  optional_strict = record { strict = slot_strict }

  default_strict : (e : A) (skipped : A → Bool) → IsStrictNeed (default K e skipped)
  default_strict e skipped = record { strict = slot_strict }

-- FORMS
abbrev AreStrict : {A : Type 0} → Rows A → Type 0
AreStrict (r ⨾ rs) = IsStrictNeed r.need × AreStrict rs
AreStrict (others get K) = IsStrict K
AreStrict no_more = Unit {0}

rows_strict : {A : Type 0} (named : List Text) (rows : Rows A) (ms : Members) → AreStrict rows
    → ignored_of (findings_beside named rows ms) ≡ []
rows_strict named (r ⨾ rs) ms s =
    search (both_strict, s.0.strict, rows_strict named rs ms s.1)
rows_strict named (others get K) ms s = entries_strict s (without named ms)
rows_strict named no_more ms s = refl

form_strict : {A : Type 0} (rows : Rows A) → AreStrict rows → IsStrict (form rows)
form_strict rows s = record {
  strict = elim [
    | table ms ↦ search (both_strict, rows_strict (spelled rows) rows ms s, ignored-keys)
    | _ ↦ refl
  ];
}

-- THE FORMS of a manifest but its badges
ruleset strict_laws = (
  text_strict,
  flag_strict,
  truth_strict,
  whole_strict,
  choice_strict,
  raw_strict,
  list_strict,
  map_strict,
  inh_strict,
  split_strict,
  required_strict,
  optional_strict,
  default_strict,
)

inherited_strict : IsStrict (form inherited_rows)
unfolding inherited_rows
inherited_strict = form_strict inherited_rows (search strict_laws)

detailed_strict : IsStrict (form detailed_rows)
unfolding detailed_rows
detailed_strict = form_strict detailed_rows (search strict_laws)

dependency_strict : IsStrict dependency
dependency_strict = split_strict _ _ text_strict (split_strict _ _ inherited_strict detailed_strict)

lint_rows_strict : IsStrict (form lint_rows)
unfolding lint_rows
lint_rows_strict = form_strict lint_rows (search strict_laws)

lint_strict : IsStrict lint
lint_strict = split_strict _ _ (choice_strict _ _ _) lint_rows_strict

product_strict : IsStrict (form product_rows)
unfolding product_rows
product_strict = form_strict product_rows (search strict_laws)

profile_strict : IsStrict (form profile_rows)
unfolding profile_rows
profile_strict = form_strict profile_rows (search strict_laws)

profiles_strict : IsStrict (form profiles_rows)
unfolding profiles_rows
profiles_strict = form_strict profiles_rows (search (strict_laws, profile_strict))

lints_strict : IsStrict (form lints_rows)
unfolding lints_rows
lints_strict = form_strict lints_rows (search (strict_laws, lint_strict))

platform_strict : IsStrict (form platform_rows)
unfolding platform_rows
platform_strict = form_strict platform_rows (search (strict_laws, dependency_strict))

workspace_package_strict : IsStrict (form workspace_package_rows)
unfolding workspace_package_rows
workspace_package_strict = form_strict workspace_package_rows (search strict_laws)

badge_strict : IsStrict (form badge_rows)
unfolding badge_rows
badge_strict = form_strict badge_rows (search strict_laws)

maintenance_strict : IsStrict (form maintenance_rows)
unfolding maintenance_rows
maintenance_strict = form_strict maintenance_rows (search strict_laws)

-- THE BADGES
among-append : (fs gs : List (Path × Cause)) (p : Path) (c : Cause) → among (fs ++ gs) p c
    ↔ (among fs p c ⊎ among gs p c)
among-append [] gs p c = (inr, elim [ inl h ↦ absurd h | inr h ↦ h ])
among-append (f ∷ fs) gs p c =
    let (there, back) = among-append fs gs p c in (
      elim [ inl h ↦ inl (inl h) | inr h ↦ elim (there h) [ inl g ↦ inl (inr g) | inr g ↦ inr g ] ],
      elim [ inl h ↦ elim h [ inl g ↦ inl g | inr g ↦ inr (back (inl g)) ] | inr h ↦ inr (back (inr h)) ],
    )

module _ (p : Path) (c : Cause) where
  one_more : {A B : Type 0} (fs gs : List Finding) → among (ignored_of fs) p c ↔ A → among (ignored_of gs) p c ↔ B
      → among (ignored_of (fs ++ gs)) p c ↔ (A ⊎ B)
  one_more fs gs a b =
      rw (ignored-append fs gs) (
      let (there, back) = among-append (ignored_of fs) (ignored_of gs) p c in (
        λ h. elim (there h) [ inl g ↦ inl (a.0 g) | inr g ↦ inr (b.0 g) ],
        elim [ inl h ↦ back (inl (a.1 h)) | inr h ↦ back (inr (b.1 h)) ],
      )
      )

  none_more : {A : Type 0} (fs gs : List Finding) → among (ignored_of fs) p c ↔ A → ignored_of gs ≡ []
      → among (ignored_of (fs ++ gs)) p c ↔ A
  none_more fs gs a e =
      let more = one_more fs gs a (λ h. h, λ h. h) in (
        λ h. elim (more.0 h) [ inl g ↦ g | inr g ↦ absurd (subst (λ t. among t p c) e g) ],
        λ h. more.1 (inl h),
      )

  badge_rows_ignore : (named : List Text) (bs : Members)
      → among (ignored_of (findings_beside named badges_rows bs)) p c ↔ unfit_badge badge_keys bs p c
  unfolding badges_rows
  badge_rows_ignore named bs =
      let badge = lenient_optional_ignores (form badge_rows) badge_strict.strict in
      let maintenance = lenient_default_ignores (form maintenance_rows) maintenance_strict.strict in
      search (one_more, none_more, badge, maintenance) depth 20

  badges_ignore : (bs : Members) → among (ignored_of ((form badges_rows).findings (table bs))) p c
      ↔ unfit_badge badge_keys bs p c
  badges_ignore bs =
      none_more (row_findings badges_rows bs) (unused_keys (left_over badges_rows bs))
      (badge_rows_ignore (spelled badges_rows) bs) (ignored-keys (left_over badges_rows bs))

ignored_under : (s : Step) (fs : List Finding) (p : Path) (c : Cause)
    → among (ignored_of (found_under s fs)) p c ↔ under s (among (ignored_of fs)) p c
ignored_under s [] p c = (λ h. absurd h, λ h. absurd h.2)
ignored_under s (ignored q e ws ∷ fs) p c =
    let (a, b) = ignored_under s fs p c in (
      elim [ inl here ↦ (q, here.0, inl (refl, here.1)) | inr there ↦ let (r, e, h) = a there in (r, e, inr h) ],
      λ h. elim h.2 [ inl here ↦ inl (h.1 ∙ ap (λ r. s ∷ r) here.0, here.1) | inr there ↦ inr (b (h.0, h.1, there)) ],
    )
ignored_under s (fault q e ws ∷ fs) p c = ignored_under s fs p c
ignored_under s (unused q ∷ fs) p c = ignored_under s fs p c

-- THE MANIFEST
abbrev BadgesIn : Option Data → Path → Cause → Type 0
BadgesIn o p c = (bs : Members) × (o ≡ Some (table bs)) × under (key (codes "badges")) (unfit_badge badge_keys bs) p c

abbrev IsTable : Option Data → Type 0
IsTable (Some (table ms)) = Unit {0}
IsTable _ = ⊥

badges_in : (o : Option Data) (p : Path) (c : Cause)
    → among (ignored_of (free_findings (only (codes "badges")) (form badges_rows).findings (slot (codes "badges") o))) p
    c
    ↔ BadgesIn o p c
badges_in None p c = (λ h. absurd h, λ h. absurd (none-some _ h.1))
badges_in (Some (table bs)) p c =
    let (there, back) = ignored_under (key (codes "badges")) ((form badges_rows).findings (table bs)) p c in (
      λ h. let (q, e, g) = there h in (bs, refl, (q, e, (badges_ignore q c bs).0 g)),
      λ h. let same : h.0 ≡ bs = ap members_of (sym (same_Some _ _ h.1)) in
          back (
            h.2.0,
            h.2.1,
            (badges_ignore h.2.0 c bs).1 (subst (λ ms. unfit_badge badge_keys ms h.2.0 c) same
                h.2.2),
          ),
    )
  where
    members_of : Data → Members
    members_of (table ms) = ms
    members_of _ = no_members
badges_in (Some d) p c = (λ h. absurd h, λ h. absurd (subst IsTable (sym h.1) tt))

package_rows_strict : (K : Kind Data) → IsStrict K → AreStrict (package_rows K)
unfolding package_rows
package_rows_strict K k = let metadata : IsStrictNeed (optional K) = optional_strict k in search (strict_laws, metadata)

package_strict : (K : Kind Data) → IsStrict K → IsStrict (form (package_rows K))
package_strict K k = form_strict (package_rows K) (package_rows_strict K k)

workspace_strict : (K : Kind Data) → IsStrict K → IsStrict (form (workspace_rows K))
unfolding workspace_rows
workspace_strict K k =
    let metadata : IsStrictNeed (optional K) = optional_strict k in
    form_strict (workspace_rows K) (search (
      strict_laws,
      metadata,
      dependency_strict,
      lint_strict,
      workspace_package_strict,
    ))

-- all rows ignore nothing but the one at this place
abbrev AreStrictBut : {A : Type 0} → ℕ → Rows A → Type 0
AreStrictBut zero (r ⨾ rs) = AreStrict rs
AreStrictBut (suc i) (r ⨾ rs) = IsStrictNeed r.need × AreStrictBut i rs
AreStrictBut i _ = ⊥

abbrev place_findings : {A : Type 0} → ℕ → Rows A → Members → List Finding
place_findings zero (r ⨾ rs) ms = r.need.findings r.spellings (at r.spellings ms)
place_findings (suc i) (r ⨾ rs) ms = place_findings i rs ms
place_findings i _ ms = []

rows_ignore : {A : Type 0} (i : ℕ) (named : List Text) (rows : Rows A) (ms : Members) → AreStrictBut i rows
    → ignored_of (findings_beside named rows ms) ≡ ignored_of (place_findings i rows ms)
rows_ignore zero named (r ⨾ rs) ms s =
    ignored-append (place_findings zero (r ⨾ rs) ms) (findings_beside named rs ms)
    ∙ ap (λ t. ignored_of (place_findings zero (r ⨾ rs) ms) ++ t) (rows_strict named rs ms s) ∙ append-nil _
rows_ignore (suc i) named (r ⨾ rs) ms s =
    then_ignored (r.need.findings r.spellings (at r.spellings ms)) (findings_beside named rs ms)
    (s.0.strict r.spellings (at r.spellings ms)) ∙ rows_ignore i named rs ms s.1
rows_ignore i named _ ms s = absurd s

module _ (K W : Kind Data) (k : IsStrict K) (w : IsStrict W) where
  manifest_strict_but : AreStrictBut 15 (manifest_rows K W)
  unfolding manifest_rows
  manifest_strict_but =
      let own : IsStrictNeed (optional (form (package_rows K))) = optional_strict (package_strict K k) in
      let workspace : IsStrictNeed (optional (form (workspace_rows W))) = optional_strict (workspace_strict W w) in
      search (
        strict_laws,
        own,
        workspace,
        dependency_strict,
        platform_strict,
        product_strict,
        profiles_strict,
        lints_strict,
      )

  manifest_rows_ignore : (ms : Members) (p : Path) (c : Cause)
      → among (ignored_of (row_findings (manifest_rows K W) ms)) p c ↔ BadgesIn (get_member (codes "badges") ms) p c
  unfolding manifest_rows
  manifest_rows_ignore ms p c =
      rw (rows_ignore 15 (spelled (manifest_rows K W)) (manifest_rows K W) ms manifest_strict_but)
      (badges_in (get_member (codes "badges") ms) p c)

  old_ignores : (ms : Members) (o : Option Data) (p : Path) (c : Cause)
      → among (ignored_of (old_findings K W ms o)) p c ↔ BadgesIn (get_member (codes "badges") ms) p c
  old_ignores ms (Some d) p c =
      none_more p c (row_findings (manifest_rows K W) ms) _ (manifest_rows_ignore ms p c)
      (search (both_strict, strict_under, (package_strict K k).strict, ignored-keys))
  old_ignores ms None p c =
      none_more p c (row_findings (manifest_rows K W) ms) _ (manifest_rows_ignore ms p c)
      (search (both_strict, rows_strict, package_rows_strict K k, ignored-keys))

  ignores_by : (b : Bool) (ms : Members) (p : Path) (c : Cause)
      → among (ignored_of (findings_by K W b ms)) p c ↔ BadgesIn (get_member (codes "badges") ms) p c
  ignores_by true ms p c =
      none_more p c (row_findings (manifest_rows K W) ms) (unused_keys (left_over (manifest_rows K W) ms))
      (manifest_rows_ignore ms p c) (ignored-keys (left_over (manifest_rows K W) ms))
  ignores_by false ms p c = old_ignores ms (get_member (codes "project") ms) p c

pub ignores_badges_alone : (K W : Kind Data) → IgnoresBadgesAlone K W
ignores_badges_alone K W k w ms p c = ignores_by K W (record { strict = k }) (record { strict = w }) (has_header ms) ms
    p c

pub raw_ignores_nothing : IgnoresNothing (tree_of raw)
raw_ignores_nothing = floats_strict
