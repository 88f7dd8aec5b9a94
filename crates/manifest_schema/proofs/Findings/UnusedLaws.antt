-- A whole table without the keys that nothing reads means the same and has the same faults, with old headers.
use Rattle.manifest_schema.specs.Prelude.{or-false, is_unused_key, is_known_old, manifest_findings, and_parts, cases_Bool, not-true, or_cases, or_parts, Data, table, Members, get_member, same_key, members_are_sorted, Text, Path, key, is_among, without, has_entry, Kind, Rows, spelled, is_closed, form, row_findings, left_over, package_rows, manifest_rows, Package, Manifest, has_header, old_package, means_by, findings_by, old_findings, SameWithoutUnused, from_step, ends_here, left_out_members, unused_in, AlikeBut, IsSound, AreSound}
use Rattle.std.proofs.Common.{◌≡◌, Bool, true, false, not, ◌&&◌, ◌||◌, ◌⊎◌, ◌↔◌, inl, inr, List, [], ◌∷◌, ◌++◌, Option, Some, None, is_some, codes, refl, sym, ap, ap₂, ◌∙◌, subst, true≢false}
use Rattle.manifest_schema.specs.Findings.{Finding, found_under, unused_keys, unused_of, faults_of}
use Rattle.manifest_schema.proofs.Tables.TableLaws.{same_key-true, same_key-false}
use Rattle.manifest_schema.proofs.Tables.LeftOutLaws.{unused_at, at-append, stays_under, key_found, kept_beside, at-under, at-other, at_first, at_second, Stays, no_key_found, named_not_found, left_value, get-left, test-left, entry_found, entry_there, entry_beside, in_order, value_sorted}
use Rattle.manifest_schema.proofs.Findings.Faultless.{faults-append, faults-keys, but-under, faults-but}
use Rattle.manifest_schema.proofs.Values.KindLaws.{same}
use Rattle.manifest_schema.proofs.Forms.FormLaws.{Owns, Agrees, owned_spelled, rows_vanish, rows_inner, left-closed, table_tidy, key_stays}
use Rattle.manifest_schema.proofs.Forms.ManifestLaws.{package_built, package_rows_sound, package_distinct, package_sound, manifest_built, manifest_rows_sound, manifest_distinct, manifest_sound}

-- THE KEYS OF A MANIFEST AND OF A PACKAGE
-- of these keys all but one are no names
abbrev pub apart_but : Text → List Text → List Text → Bool
apart_but w names [] = true
apart_but w names (k ∷ ks) = (same_key w k || not (is_among names k)) && apart_but w names ks

pub shared_is : (w : Text) (names ks : List Text) (k : Text) → apart_but w names ks ≡ true → is_among ks k ≡ true
    → is_among names k ≡ true → w ≡ k
shared_is w names [] k a h n = absurd (true≢false (sym h))
shared_is w names (l ∷ ks) k a h n =
    let (here, more) = and_parts (same_key w l || not (is_among names l)) (apart_but w names ks) a in
    elim (cases_Bool (same_key l k)) [
      | inl e ↦ elim (or_cases (same_key w l) (not (is_among names l)) here) [
        | inl f ↦ same_key-true w l f ∙ same_key-true l k e
        | inr f ↦ absurd (true≢false (sym n ∙ ap (is_among names) (sym (same_key-true l k e)) ∙ not-true _ f))
      ]
      | inr e ↦ shared_is w names ks k more (rw e at h) n
    ]

pub record KnownKeys (own all : List Text) : Type 0 where
  pub shared : apart_but (codes "workspace") own all ≡ true
  pub no_project : is_among all (codes "project") ≡ false
  pub has_package : is_among all (codes "package") ≡ true
  pub has_workspace : is_among all (codes "workspace") ≡ true

pub known : (K W : Kind Data) → KnownKeys (spelled (package_rows K)) (spelled (manifest_rows K W))
unfolding package_rows manifest_rows
known K W = record { shared = refl; no_project = refl; has_package = refl; has_workspace = refl }

pub closed : (K W : Kind Data) → (is_closed (package_rows K) ≡ true) × (is_closed (manifest_rows K W) ≡ true)
unfolding package_rows manifest_rows
closed K W = (refl, refl)

-- HEADERS
abbrev has_key : Text → Members → Bool
has_key j ms = is_some (get_member j ms)

has_key-left : (ps : List Path) (j : Text) (ms : Members) → (ends_here (from_step (key j) ps) ≡ false)
    ⊎ (has_key j ms ≡ false) → has_key j (left_out_members ps ms) ≡ has_key j ms
has_key-left ps j ms h = test-left is_some refl (λ ps d. refl) ps j ms h

pub none_of : (o : Option Data) → is_some o ≡ false → o ≡ None
none_of None h = refl
none_of (Some d) h = absurd (true≢false h)

module _ {K W : Kind Data} (k : IsSound K) (w : IsSound W) where
  abbrev rows : Rows Manifest
  rows = manifest_rows K W

  abbrev own_rows : Rows Package
  own_rows = package_rows K

  abbrev project : Text
  project = codes "project"

  abbrev workspace : Text
  workspace = codes "workspace"

  rows_tidy : AreSound rows
  rows_tidy = manifest_rows_sound K W k w

  rows_spelled : (j : Text) → Owns (spelled rows) rows j → is_among (spelled rows) j ≡ true
  rows_spelled j o = owned_spelled (spelled rows) rows j (closed K W).1 o

  own_spelled : (j : Text) → Owns (spelled own_rows) own_rows j → is_among (spelled own_rows) j ≡ true
  own_spelled j o = owned_spelled (spelled own_rows) own_rows j (closed K W).0 o

  -- A TABLE WITHOUT A HEADER, by the value under `project`
  module _ (ms : Members) (s : members_are_sorted ms ≡ true) (none : get_member workspace ms ≡ None) where
    -- none of the keys that are left over is named
    left_none : (names : List Text) (j : Text) → (is_among names j ≡ true) ⊎ (is_among (spelled rows) j ≡ true)
        → unused_at (key j) (unused_keys (without names (left_over rows ms))) ≡ []
    left_none names j (inl h) = named_not_found names j (left_over rows ms) h
    left_none names j (inr h) = no_key_found j (without names (left_over rows ms)) (λ d e.
        let there : has_entry j d (without (spelled rows) ms) = subst (has_entry j d) (left-closed (spelled rows) ms
        rows (closed K W).1) (entry_beside names j d (left_over rows ms) e).0 in
        true≢false (sym h ∙ (entry_beside (spelled rows) j d ms there).1))

    -- but for `workspace`, which is absent, no key is of both
    apart : (j : Text) (d : Data) → has_entry j d ms → is_among (spelled rows) j ≡ true → is_among (spelled own_rows)
        j ≡ true → ⊥
    apart j d h a b = entry_there j d ms h (subst (λ l. get_member l ms ≡ None) (shared_is workspace (spelled own_rows)
        (spelled rows) j (known K W).shared a b) none)

    abbrev first : List Finding
    first = row_findings rows ms

    abbrev inside : Data → List Finding
    inside d = found_under (key project) ((form own_rows).findings d)

    abbrev beside : List Finding
    beside = unused_keys (without (project ∷ []) (left_over rows ms))

    abbrev second : List Finding
    second = row_findings own_rows ms

    abbrev rest : List Finding
    rest = unused_keys (left_over own_rows (left_over rows ms))

    rest_none : (j : Text) → (is_among (spelled own_rows) j ≡ true) ⊎ (is_among (spelled rows) j ≡ true)
        → unused_at (key j) rest ≡ []
    rest_none j h = rw (left-closed (spelled own_rows) (left_over rows ms) own_rows (closed K W).0)
        (left_none (spelled own_rows) j h)

    old_agrees : (o : Option Data) → Agrees (spelled rows) ms rows (unused_of (old_findings K W ms o))
    old_agrees (Some d) j o =
        let h = rows_spelled j o in
        let other = same_key-false j project (λ tie. true≢false (sym h ∙ ap (is_among (spelled rows)) tie
        ∙ (known K W).no_project)) in
        at_first (key j) first (inside d ++ beside) (at_second (key j) (inside d) beside (at-other (key j) (key project)
        ((form own_rows).findings d) other) ∙ left_none (project ∷ []) j (inr h))
    old_agrees None j o =
        let h = rows_spelled j o in
        at_first (key j) first (second ++ rest)
        (at_second (key j) second rest
        (rows_vanish (spelled own_rows) ms own_rows j (package_rows_sound K k)
        (λ d e o. apart j d e h (own_spelled j o))) ∙ rest_none j (inr h))

    project_paths : (d : Data) → unused_at (key project) (old_findings K W ms (Some d)) ≡ unused_in (form own_rows) d
    project_paths d =
        at_second (key project) first (inside d ++ beside) (rows_vanish (spelled rows) ms rows project rows_tidy
        (λ d h o. true≢false (sym (rows_spelled project o) ∙ (known K W).no_project)))
        ∙ at_first (key project) (inside d) beside (left_none (project ∷ []) project (inl refl))
        ∙ at-under (key project) (key project) ((form own_rows).findings d) refl

    own_agrees : Agrees (spelled own_rows) ms own_rows (unused_of (old_findings K W ms None))
    own_agrees j o =
        let h = own_spelled j o in
        at_second (key j) first (second ++ rest) (rows_vanish (spelled rows) ms rows j rows_tidy
        (λ d e o. apart j d e (rows_spelled j o) h)) ∙ at_first (key j) second rest (rest_none j (inl h))

    abbrev left : Option Data → Members
    left o = left_out_members (unused_of (old_findings K W ms o)) ms

    abbrev project_left : Option Data → Option Data
    project_left o = left_value (unused_at (key project) (old_findings K W ms o)) o

    -- the same contents, and the same faults in the same order
    abbrev Same : {A : Type 0} → (A → Type 0) → List Finding → (A → Type 0) → List Finding → Type 0
    Same {A} R fs Q gs = ((x : A) → R x ↔ Q x) × (faults_of fs ≡ faults_of gs)

    abbrev own_found : Members → Option Data → List Finding
    own_found ms (Some d) = found_under (key project) ((form own_rows).findings d)
    own_found ms None = row_findings own_rows ms

    package_same : (o : Option Data) → get_member project ms ≡ o
        → AlikeBut ((form own_rows).reads (old_package (left o) (project_left o))) (own_found (left o) (project_left o))
        ((form own_rows).reads (old_package ms o)) (own_found ms o)
    package_same (Some d) e =
        let sorted = value_sorted project d ms (in_order ms s) (entry_found project d ms e) in
        let t = package_sound K k in
        let (a, b) = t.tidy d sorted in
        rw (project_paths d, t.inside d)
        (a, ap (found_under (key project)) b ∙ sym (but-under (key project) ((form own_rows).findings d)))
    package_same None e =
        table_tidy own_rows (package_rows_sound K k) (package_built K) (package_distinct K)
        (unused_of (old_findings K W ms None)) ms (in_order ms s) own_agrees

    faults_old : (ns : Members) (o : Option Data)
        → faults_of (old_findings K W ns o) ≡ faults_of (row_findings rows ns) ++ faults_of (own_found ns o)
    faults_old ns (Some d) =
        faults-append (row_findings rows ns) (own_found ns (Some d) ++ _)
        ∙ ap (λ fs. faults_of (row_findings rows ns) ++ fs) (faults-keys (own_found ns (Some d)) _)
    faults_old ns None =
        faults-append (row_findings rows ns) (own_found ns None ++ _)
        ∙ ap (λ fs. faults_of (row_findings rows ns) ++ fs) (faults-keys (own_found ns None) _)

    old_same : (o : Option Data) → get_member project ms ≡ o
        → Same (means_by K W false (left o)) (findings_by K W false (left o)) (means_by K W false ms)
        (findings_by K W false ms)
    old_same o e =
        let (a, b) =
        table_tidy rows rows_tidy (manifest_built K W) (manifest_distinct K W)
        (unused_of (old_findings K W ms o)) ms (in_order ms s) (old_agrees o) in
        let (c, d) = package_same o e in
        rw (get-left (unused_of (old_findings K W ms o)) project ms, e) (
          λ m. (λ h. (h.0, h.1, (a h.0).0 h.2, (c h.1).0 h.3, h.4), λ h. (h.0, h.1, (a h.0).1 h.2, (c h.1).1 h.3, h.4)),
          faults_old (left o) (project_left o) ∙ ap₂ (λ fs gs. faults_of fs ++ faults_of gs) b d
              ∙ ap₂ (λ fs gs. fs ++ gs) (faults-but (row_findings rows ms)) (faults-but (own_found ms o))
              ∙ sym (faults_old ms o),
        )

  -- THE WHOLE TABLE, by whether it has a header: one stays, and none comes
  abbrev left_by : Bool → Members → Members
  left_by h ms = left_out_members (unused_of (findings_by K W h ms)) ms

  abbrev Kept : Bool → Members → Text → Type 0
  Kept h ms j = Stays (key j) (findings_by K W h ms) ⊎ (has_key j ms ≡ false)

  header_stays : (h : Bool) (ms : Members) → has_header ms ≡ h → has_header (left_by h ms) ≡ h
  header_stays h ms e =
      let kept = has_key-left (unused_of (findings_by K W h ms)) in
      let (a, b) = either h ms e in
      ap₂ (λ a b. a || b) (kept (codes "package") ms a) (kept workspace ms b) ∙ e
    where
      either : (h : Bool) (ms : Members) → has_header ms ≡ h → Kept h ms (codes "package") × Kept h ms workspace
      either true ms e = (
        inl (key_stays rows rows_tidy ms (codes "package") (known K W).has_package),
        inl
            (key_stays rows rows_tidy ms workspace (known K W).has_workspace),
      )
      either false ms e = let (a, b) = or_parts (has_key (codes "package") ms) (has_key workspace ms) e in
          (inr a, inr b)

  same_by : (h : Bool) (ms : Members) → members_are_sorted ms ≡ true → has_header ms ≡ h
      → ((m : Manifest) → means_by K W h (left_by h ms) m ↔ means_by K W h ms m)
      × (faults_of (findings_by K W h (left_by h ms)) ≡ faults_of (findings_by K W h ms))
  same_by true ms s e =
      let (a, b) = (manifest_sound K W k w).tidy (table ms) s in
      (a, ap faults_of b ∙ faults-but (findings_by K W true ms))
  same_by false ms s e = old_same ms s (none_of (get_member workspace ms) (or_parts (has_key (codes "package") ms)
      (has_key workspace ms) e).1) (get_member project ms) refl

  pub same_without_unused : SameWithoutUnused K W
  same_without_unused ms s =
      let (a, b) = same_by (has_header ms) ms s refl in
      rw (header_stays (has_header ms) ms refl) (a, λ p c. rw b same)

-- WHICH KEYS ARE UNLISTED at the top of a table without a header
end_second : (ps qs : List Path) (b : Bool) → ends_here ps ≡ false → ends_here qs ≡ b → ends_here (ps ++ qs) ≡ b
end_second [] qs b p q = q
end_second ([] ∷ ps) qs b p q = absurd (true≢false p)
end_second ((s ∷ r) ∷ ps) qs b p q = end_second ps qs b p q

ends_append : (j : Text) (fs gs : List Finding) (b : Bool) → Stays (key j) fs → ends_here (unused_at (key j) gs) ≡ b
    → ends_here (unused_at (key j) (fs ++ gs)) ≡ b
ends_append j fs gs b p q =
    ap ends_here (at-append (key j) fs gs) ∙ end_second (unused_at (key j) fs) (unused_at (key j) gs) b p q

module _ {K W : Kind Data} (k : IsSound K) (w : IsSound W) (ms : Members) where
  -- a key that a row has stays
  known_stays : {A : Type 0} (rows : Rows A) → AreSound rows → (j : Text) → Stays (key j) (row_findings rows ms)
  known_stays rows S j = (rows_inner (spelled rows) ms rows S).1 j

  -- the entries that are left over are those under other keys
  left_is : left_over (manifest_rows K W) ms ≡ without (spelled (manifest_rows K W)) ms
  left_is = left-closed (spelled (manifest_rows K W)) ms (manifest_rows K W) (closed K W).1

  abbrev LeftKeys : List Text → Text → Data → Type 0
  LeftKeys names j d =
      ends_here (unused_at (key j) (unused_keys (without names (left_over (manifest_rows K W) ms))))
      ≡ not (is_among (spelled (manifest_rows K W)) j || is_among names j)

  left_keys : (names : List Text) (j : Text) (d : Data) → has_entry j d ms → LeftKeys names j d
  left_keys names j d h = rw left_is (by_key (is_among (spelled (manifest_rows K W)) j) (is_among names j) refl refl)
    where
      ns : Members
      ns = without (spelled (manifest_rows K W)) ms

      by_key : (a b : Bool) → is_among (spelled (manifest_rows K W)) j ≡ a → is_among names j ≡ b
          → ends_here (unused_at (key j) (unused_keys (without names ns))) ≡ not (a || b)
      by_key true b e f =
          ap ends_here
          (no_key_found j (without names ns)
          (λ d there. true≢false
          (sym e ∙ (entry_beside (spelled (manifest_rows K W)) j d ms (entry_beside names j d ns there).0).1)))
      by_key false true e f = ap ends_here (named_not_found names j ns f)
      by_key false false e f =
          key_found j d (without names ns)
          (kept_beside names j d ns (kept_beside (spelled (manifest_rows K W)) j d ms h e) f)

  -- one list after two others, in neither of which the key ends
  last_of : (j : Text) (fs gs hs : List Finding) (b : Bool) → Stays (key j) fs → Stays (key j) gs
      → ends_here (unused_at (key j) hs) ≡ b → ends_here (unused_at (key j) (fs ++ (gs ++ hs))) ≡ b
  last_of j fs gs hs b p q r = ends_append j fs (gs ++ hs) b p (ends_append j gs hs b q r)

  pub old_unused : (o : Option Data) (j : Text) (d : Data) → has_entry j d ms
      → is_unused_key j (unused_of (old_findings K W ms o)) ≡ not (is_known_old K W o j)
  old_unused (Some e) j d h =
      let first = row_findings (manifest_rows K W) ms in
      let inside = found_under (key (codes "project")) ((form (package_rows K)).findings e) in
      last_of j first inside (unused_keys (without (codes "project" ∷ []) (left_over (manifest_rows K W) ms))) _
      (known_stays (manifest_rows K W) (manifest_rows_sound K W k w) j)
      (stays_under (key j) (key (codes "project")) ((form (package_rows K)).findings e) ((package_sound K k).inside e))
      (left_keys (codes "project" ∷ []) j d h
      ∙ ap (λ b. not (is_among (spelled (manifest_rows K W)) j || b)) (or-false (same_key (codes "project") j)))
  old_unused None j d h =
      last_of j (row_findings (manifest_rows K W) ms) (row_findings (package_rows K) ms)
      (unused_keys (left_over (package_rows K) (left_over (manifest_rows K W) ms))) _
      (known_stays (manifest_rows K W) (manifest_rows_sound K W k w) j)
      (known_stays (package_rows K) (package_rows_sound K k) j)
      (rw (left-closed (spelled (package_rows K)) (left_over (manifest_rows K W) ms) (package_rows K) (closed K W).0)
      (left_keys (spelled (package_rows K)) j d h))

  pub old_top_unused : has_header ms ≡ false → (j : Text) (d : Data) → has_entry j d ms
      → is_unused_key j (unused_of (manifest_findings K W ms))
      ≡ not (is_known_old K W (get_member (codes "project") ms) j)
  old_top_unused none j d h = rw none (old_unused (get_member (codes "project") ms) j d h)
