-- What is found in a whole table stands at paths that diverge, with old headers.
use Rattle.manifest_schema.specs.Prelude.{and_parts, cases_Bool, false≢true, not-true, or_cases, or_parts, Data, table, Members, get_member, same_key, members_are_sorted, Text, Step, key, index, Spellings, only, both, absent, at, is_among, without, Kind, Rows, no_more, others, ◌⨾◌, spelled, form, findings_beside, row_findings, left_over, package_rows, manifest_rows, Package, Manifest, has_header, is_empty, findings_by, old_findings, FindsEachOnce, found_paths, AllDiverge, AllBegin, IsSound, IsSoundNeed, AreSound}
use Rattle.std.proofs.Common.{◌≡◌, Bool, true, false, not, ◌&&◌, ◌||◌, inl, inr, List, [], ◌∷◌, Option, Some, None, is_some, codes, refl, sym, ap, ◌∙◌, subst, true≢false}
use Rattle.manifest_schema.specs.Needs
use Rattle.manifest_schema.specs.Findings.{Finding, unused_keys}
use Rattle.manifest_schema.proofs.Tables.TableLaws.{same_key-self, same_key-true}
use Rattle.manifest_schema.proofs.Tables.LeftOutLaws.{InOrder, in_order, order_beside, entry_beside, entry_found, value_sorted}
use Rattle.manifest_schema.proofs.Forms.FormLaws.{HasSpelling, owned_spelled, left-closed, row_diverging, rows_diverging}
use Rattle.manifest_schema.proofs.Findings.Diverging.{DivergingBy, weaker_diverging, both_diverging, under_diverging, begin_weaker, begin_with, begin_both, KeyOf, key_weaker, key_apart, keys_diverging}
use Rattle.manifest_schema.proofs.Forms.ManifestLaws.{package_distinct, package_sound, package_rows_sound, manifest_distinct, manifest_sound, manifest_rows_sound}
use Rattle.manifest_schema.proofs.Findings.UnusedLaws.{shared_is, known, closed, none_of}

-- A KEY THAT IS ABSENT: no path begins with it, if its row finds nothing then
abbrev is_quiet : Text → Spellings → List Finding → Bool
is_quiet w (only k) fs = not (same_key k w) || is_empty fs
is_quiet w (both k l) fs = not (same_key k w) && not (same_key l w)

abbrev are_quiet : {A : Type 0} → Text → Rows A → Bool
are_quiet w (r ⨾ rs) = is_quiet w r.spellings (r.need.findings r.spellings absent) && are_quiet w rs
are_quiet w (others get K) = false
are_quiet w no_more = true

quiet_package : (K : Kind Data) → are_quiet (codes "workspace") (package_rows K) ≡ true
unfolding package_rows
quiet_package K = refl

abbrev Not : Text → Step → Type 0
Not w s = s ≡ key w → ⊥

empty_begin : (P : Step → Type 0) (fs : List Finding) → is_empty fs ≡ true → AllBegin P (found_paths fs)
empty_begin P [] h = tt
empty_begin P (f ∷ fs) h = absurd (false≢true h)

differs : (k w : Text) → not (same_key k w) ≡ true → k ≡ w → ⊥
differs k w h e = true≢false (sym (same_key-self w) ∙ subst (λ j. same_key j w ≡ false) e (not-true _ h))

module _ (ms : Members) (s : InOrder ms) (w : Text) (none : get_member w ms ≡ None) where
  row_without : {C : Type 0} (n : Needs.Need C) (names : Spellings) → IsSoundNeed n → (HasSpelling names w → ⊥)
      → AllBegin (Not w) (found_paths (n.findings names (at names ms)))
  row_without n names T other = begin_weaker (found_paths (n.findings names (at names ms)))
      (λ t h e. other (subst (KeyOf (HasSpelling names)) e h)) (row_diverging ms s n names T).begin

  row_quiet : {C : Type 0} (n : Needs.Need C) (names : Spellings) → IsSoundNeed n
      → is_quiet w names (n.findings names absent) ≡ true
      → AllBegin (Not w) (found_paths (n.findings names (at names ms)))
  row_quiet n (only k) T q = elim (or_cases (not (same_key k w)) (is_empty (n.findings (only k) absent)) q) [
    | inl h ↦ row_without n (only k) T (differs k w h)
    | inr h ↦ elim (cases_Bool (same_key k w)) [
      | inl e ↦ let gone : get_member k ms ≡ None = subst (λ j. get_member j ms ≡ None) (sym (same_key-true k w e))
          none in
          rw gone (empty_begin (Not w) (n.findings (only k) absent) h)
      | inr e ↦ row_without n (only k) T (λ tie. true≢false (sym (same_key-self w) ∙ subst (λ j. same_key j w ≡ false)
          tie e))
    ]
  ]
  row_quiet n (both k l) T q =
      let (a, b) = and_parts (not (same_key k w)) (not (same_key l w)) q in
      row_without n (both k l) T (elim [ inl e ↦ differs k w a e | inr e ↦ differs l w b e ])

  rows_quiet : {A : Type 0} (named : List Text) (rows : Rows A) → AreSound rows → are_quiet w rows ≡ true
      → AllBegin (Not w) (found_paths (findings_beside named rows ms))
  rows_quiet named no_more t q = tt
  rows_quiet named (others get K) t q = absurd (false≢true q)
  rows_quiet named (r ⨾ rs) t q =
      let (a, b) = and_parts (is_quiet w r.spellings (r.need.findings r.spellings absent)) (are_quiet w rs) q in
      begin_both (Not w) (r.need.findings r.spellings (at r.spellings ms)) (findings_beside named rs ms)
      (row_quiet r.need r.spellings t.0 a) (rows_quiet named rs t.1 b)

-- A TABLE WITHOUT A HEADER, by the value under `project`
module _ {K W : Kind Data} (k : IsSound K) (w : IsSound W) (ms : Members) (s : InOrder ms)
    (none : get_member (codes "workspace") ms ≡ None) where
  abbrev rows : Rows Manifest
  rows = manifest_rows K W

  abbrev own_rows : Rows Package
  own_rows = package_rows K

  abbrev project : Text
  project = codes "project"

  abbrev Left : List Text → Text → Type 0
  Left names j = (is_among names j ≡ false) × (is_among (spelled rows) j ≡ false)

  left : left_over rows ms ≡ without (spelled rows) ms
  left = left-closed (spelled rows) ms rows (closed K W).1

  left_keys : (names : List Text) → DivergingBy (KeyOf (Left names)) (unused_keys (without names (left_over rows ms)))
  left_keys names = rw left (weaker_diverging (key_weaker (λ j h.
      let (there, a) = entry_beside names j h.0 (without (spelled rows) ms) h.1 in
      (a, (entry_beside (spelled rows) j h.0 ms there).1)))
      (keys_diverging (without names (without (spelled rows) ms)) (order_beside names (without (spelled rows) ms)
      (order_beside (spelled rows) ms s))))

  first : DivergingBy (KeyOf (λ j. is_among (spelled rows) j ≡ true)) (row_findings rows ms)
  first = weaker_diverging (key_weaker (λ j o. owned_spelled (spelled rows) rows j (closed K W).1 o))
      (rows_diverging ms s (spelled rows) rows (manifest_rows_sound K W k w) (manifest_distinct K W) (λ j h. h))

  second : DivergingBy (λ t. KeyOf (λ j. is_among (spelled own_rows) j ≡ true) t × Not (codes "workspace") t)
      (row_findings own_rows ms)
  second =
      let p = rows_diverging ms s (spelled own_rows) own_rows (package_rows_sound K k) (package_distinct K)
      (λ j h. h) in
      let ps = found_paths (row_findings own_rows ms) in
      record {
        begin = begin_with _ _ ps (begin_weaker ps (key_weaker (λ j o. owned_spelled (spelled own_rows) own_rows j
            (closed K W).0 o)) p.begin)
            (rows_quiet ms s (codes "workspace") none (spelled own_rows) own_rows (package_rows_sound K k)
            (quiet_package K));
        diverge = p.diverge;
      }

  old_diverging : (o : Option Data) → get_member project ms ≡ o → AllDiverge (found_paths (old_findings K W ms o))
  old_diverging (Some d) e =
      let own =
      under_diverging (key project) ((form own_rows).findings d)
      ((package_sound K k).once d (value_sorted project d ms s (entry_found project d ms e))) in
      (both_diverging {R = λ t. Unit {0}} first
      (both_diverging {R = KeyOf (λ j. is_among (spelled rows) j ≡ false)} own (left_keys (project ∷ []))
      (λ t e. rw e (known K W).no_project) (key_weaker (λ j h. h.1))
      (λ t e h. true≢false (subst (KeyOf (Left (project ∷ []))) e h).0))
      (λ t h. tt) (λ t h. tt) (key_apart (λ j a b. true≢false (sym a ∙ b)))).diverge
  old_diverging None e =
      let shared = shared_is (codes "workspace") (spelled own_rows) (spelled rows) in
      (both_diverging {R = λ t. Unit {0}} first
      (rw (left-closed (spelled own_rows) (left_over rows ms) own_rows (closed K W).0)
      (both_diverging {R = KeyOf (λ j. is_among (spelled rows) j ≡ true → ⊥)} second (left_keys (spelled own_rows))
      (elim [ key j ↦ λ h a. h.1 (ap key (sym (shared j (known K W).shared a h.0))) | index i ↦ λ h. h.0 ])
      (key_weaker (λ j h a. true≢false (sym a ∙ h.1)))
      (elim [ key j ↦ λ h g. true≢false (sym h.0 ∙ g.0) | index i ↦ λ h g. g ])))
      (λ t h. tt) (λ t h. tt) (key_apart {Q = λ j. is_among (spelled rows) j ≡ true → ⊥} (λ j a b. b a))).diverge

module _ {K W : Kind Data} (k : IsSound K) (w : IsSound W) where
  diverging_by : (h : Bool) (ms : Members) → members_are_sorted ms ≡ true → has_header ms ≡ h
      → AllDiverge (found_paths (findings_by K W h ms))
  diverging_by true ms s e = (manifest_sound K W k w).once (table ms) s
  diverging_by false ms s e = old_diverging k w ms (in_order ms s) (none_of (get_member (codes "workspace") ms)
      (or_parts (is_some (get_member (codes "package") ms)) (is_some (get_member (codes "workspace") ms)) e).1)
      (get_member (codes "project") ms) refl

  pub finds_each_once : FindsEachOnce K W
  finds_each_once ms s = diverging_by (has_header ms) ms s refl
