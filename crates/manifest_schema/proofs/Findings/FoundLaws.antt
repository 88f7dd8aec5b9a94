-- What is found in a whole table: each of its faults, and none exactly where it means a manifest.
use Rattle.manifest_schema.specs.Prelude.{Data, table, Members, get_member, Path, Cause, Step, key, under, Kind, Rows, form, faulty, package_rows, manifest_rows, Package, Manifest, has_header, old_package, faulty_old, means_by, manifest_faulty_by, without, row_findings, left_over, form_findings, Finding, fault, ignored, unused, found_under, unused_keys, faults_of, among, FindsAll, IsFaultless, old_findings, findings_by, manifest_findings, Decided, IsSound, FindsEveryFault, FaultlessIfMeant, FaultyMeansNothing, AcceptedOrFaulty}
use Rattle.std.proofs.Common.{◌≡◌, ◌↔◌, Bool, true, false, ◌⊎◌, inl, inr, List, [], ◌∷◌, ◌++◌, Option, Some, None, codes, refl, ap, ◌∙◌}
use Rattle.manifest_schema.proofs.Findings.Faultless.{both_none, under_none, keys_none, decided_apart, decided_total}
use Rattle.manifest_schema.proofs.Forms.ManifestLaws.{package_sound, manifest_sound}

-- NO FAULT exactly where it means a manifest
rows_form : {A : Type 0} (rows : Rows A) (ms : Members)
    → IsFaultless (row_findings rows ms) ↔ IsFaultless (form_findings rows (table ms))
rows_form rows ms =
    let cut = both_none (row_findings rows ms) (unused_keys (left_over rows ms)) in
    (λ e. cut.1 (e, keys_none (left_over rows ms)), λ e. (cut.0 e).0)

module _ {K W : Kind Data} (k : IsSound K) (w : IsSound W) where
  abbrev MeansOld : Members → Option Data → Manifest → Type 0
  MeansOld ms o m =
      (n : Manifest) × (p : Package) × (form (manifest_rows K W)).reads (table ms) n
      × (form (package_rows K)).reads (old_package ms o) p × (m ≡ record n { «package» = Some p })

  old_by : (ms : Members) (o : Option Data) (fs : List Finding) (ns : Members)
      → IsFaultless fs ↔ IsFaultless ((form (package_rows K)).findings (old_package ms o))
      → Decided (row_findings (manifest_rows K W) ms ++ (fs ++ unused_keys ns)) (MeansOld ms o)
  old_by ms o fs ns same =
      let first = row_findings (manifest_rows K W) ms in
      let cut = both_none first (fs ++ unused_keys ns) in
      let more = both_none fs (unused_keys ns) in
      let whole = (manifest_sound K W k w).decided (table ms) in
      let own = (package_sound K k).decided (old_package ms o) in
      let turn = rows_form (manifest_rows K W) ms in (
        λ e. let (a, b) = cut.0 e in
            let (n, r) = whole.0 (turn.0 a) in
            let (p, q) = own.0 (same.0 (more.0 b).0) in
            (record n { «package» = Some p }, (n, p, r, q, refl)),
        λ m. cut.1 (turn.1 (whole.1 (m.1.0, m.1.2)), more.1 (same.1 (own.1 (m.1.1, m.1.3)), keys_none ns)),
      )

  old_decided : (ms : Members) (o : Option Data) → Decided (old_findings K W ms o) (MeansOld ms o)
  old_decided ms (Some d) =
      old_by ms (Some d) (found_under (key (codes "project")) ((form (package_rows K)).findings d))
      (without (codes "project" ∷ []) (left_over (manifest_rows K W) ms))
      (under_none (key (codes "project")) ((form (package_rows K)).findings d))
  old_decided ms None =
      old_by ms None (row_findings (package_rows K) ms) (left_over (package_rows K) (left_over (manifest_rows K W) ms))
      (rows_form (package_rows K) ms)

  decided_by : (h : Bool) (ms : Members) → Decided (findings_by K W h ms) (means_by K W h ms)
  decided_by true ms = (manifest_sound K W k w).decided (table ms)
  decided_by false ms = old_decided ms (get_member (codes "project") ms)

  pub faultless_if_meant : FaultlessIfMeant K W
  faultless_if_meant ms = decided_by (has_header ms) ms

  pub faulty_means_nothing : FaultyMeansNothing K W
  faulty_means_nothing ms p c m f a = decided_apart (manifest_findings K W ms) (decided_by (has_header ms) ms) p c m f a

  pub accepted_or_faulty : AcceptedOrFaulty K W
  accepted_or_faulty ms = decided_total (manifest_findings K W ms) (decided_by (has_header ms) ms)

-- WHERE THE FAULTS STAND
pub under_to : (s : Step) (fs : List Finding) (p : Path) (c : Cause)
    → among (faults_of (found_under s fs)) p c ↔ under s (among (faults_of fs)) p c
under_to s [] p c = (λ h. absurd h, λ h. absurd h.2)
under_to s (fault q e ws ∷ fs) p c =
    let (a, b) = under_to s fs p c in (
      elim [ inl here ↦ (q, here.0, inl (refl, here.1)) | inr there ↦ let (r, e, h) = a there in (r, e, inr h) ],
      λ h. elim h.2 [ inl here ↦ inl (h.1 ∙ ap (λ r. s ∷ r) here.0, here.1) | inr there ↦ inr (b (h.0, h.1, there)) ],
    )
under_to s (ignored q e ws ∷ fs) p c = under_to s fs p c
under_to s (unused q ∷ fs) p c = under_to s fs p c

pub append_to : (fs gs : List Finding) (p : Path) (c : Cause)
    → among (faults_of (fs ++ gs)) p c ↔ (among (faults_of fs) p c ⊎ among (faults_of gs) p c)
append_to [] gs p c = (λ h. inr h, elim [ inl h ↦ absurd h | inr h ↦ h ])
append_to (fault q e ws ∷ fs) gs p c =
    let (a, b) = append_to fs gs p c in (
      elim [ inl here ↦ inl (inl here) | inr there ↦ elim (a there) [ inl h ↦ inl (inr h) | inr h ↦ inr h ] ],
      elim [ inl h ↦ elim h [ inl here ↦ inl here | inr there ↦ inr (b (inl there)) ] | inr h ↦ inr (b (inr h)) ],
    )
append_to (ignored q e ws ∷ fs) gs p c = append_to fs gs p c
append_to (unused q ∷ fs) gs p c = append_to fs gs p c

pub keys_to : (fs : List Finding) (ms : Members) (p : Path) (c : Cause)
    → among (faults_of (fs ++ unused_keys ms)) p c ↔ among (faults_of fs) p c
keys_to fs ms p c =
    let (a, b) = append_to fs (unused_keys ms) p c in
    (λ h. elim (a h) [ inl h ↦ h | inr h ↦ absurd (rw (keys_none ms) at h) ], λ h. b (inl h))

-- of a table: those of the form, and without a header those of the old package too
module _ (K W : Kind Data) where
  whole_to : (ms : Members) (p : Path) (c : Cause)
      → among (faults_of (row_findings (manifest_rows K W) ms)) p c ↔ faulty (form (manifest_rows K W)) (table ms) p c
  whole_to ms p c =
      let (a, b) = keys_to (row_findings (manifest_rows K W) ms) (left_over (manifest_rows K W) ms) p c in (b, a)

  three_to : (ms ns : Members) (o : Option Data) (fs : List Finding) (p : Path) (c : Cause)
      → among (faults_of fs) p c ↔ faulty_old K ms o p c
      → among (faults_of (row_findings (manifest_rows K W) ms ++ (fs ++ unused_keys ns))) p c
      ↔ (faulty (form (manifest_rows K W)) (table ms) p c ⊎ faulty_old K ms o p c)
  three_to ms ns o fs p c same =
      let (a, b) = append_to (row_findings (manifest_rows K W) ms) (fs ++ unused_keys ns) p c in
      let (e, f) = whole_to ms p c in
      let (g, h) = keys_to fs ns p c in (
        λ x. elim (a x) [ inl y ↦ inl (e y) | inr y ↦ inr (same.0 (g y)) ],
        elim [ inl y ↦ b (inl (f y)) | inr y ↦ b (inr (h (same.1 y))) ],
      )

  old_to : (ms : Members) (o : Option Data) (p : Path) (c : Cause)
      → among (faults_of (old_findings K W ms o)) p c
      ↔ (faulty (form (manifest_rows K W)) (table ms) p c ⊎ faulty_old K ms o p c)
  old_to ms (Some d) p c =
      three_to ms _ (Some d) (found_under (key (codes "project")) ((form (package_rows K)).findings d)) p c
      (under_to (key (codes "project")) ((form (package_rows K)).findings d) p c)
  old_to ms None p c =
      let (a, b) = keys_to (row_findings (package_rows K) ms) (left_over (package_rows K) ms) p c in
      three_to ms _ None (row_findings (package_rows K) ms) p c (b, a)

  every_by : (h : Bool) (ms : Members) → FindsAll (findings_by K W h ms) (manifest_faulty_by K W h ms)
  every_by true ms p c = (λ h. h, λ h. h)
  every_by false ms p c = old_to ms (get_member (codes "project") ms) p c

  pub finds_every_fault : FindsEveryFault K W
  finds_every_fault ms = every_by (has_header ms) ms
