-- The first fault of a table without a header, and of the document of a text.
use Rattle.manifest_schema.specs.Prelude.{Data, table, Members, key, Kind, IsSound, form, package_rows, manifest_rows, Rows, Manifest, IsFaultless, first_found, found_under, unused_keys, without, row_findings, left_over, form_findings, old_findings}
use Rattle.std.proofs.Common.{[], ◌∷◌, ◌++◌, Option, Some, None, codes, sym, ◌∙◌}
use Rattle.manifest_schema.proofs.Findings.Faultless.{faults-keys}
use Rattle.manifest_schema.proofs.Forms.ManifestLaws.{manifest_sound}
use Rattle.manifest_fault.specs.Faults.{FaultIn}
use Rattle.manifest_fault.specs.declared.fault.ReadFault.{ReadFault}
use Rattle.manifest_value.proofs.FirstLemmas.{first_before, first_after, first_same, read_clean}
use Rattle.cargo_manifest.specs.Answers.{old_package_findings}

-- the rows of a form have the faults of its table
rows_same : {A : Type 0} (rows : Rows A) (ms : Members) (f : ReadFault)
    → FaultIn (first_found (form_findings rows (table ms))) f → FaultIn (first_found (row_findings rows ms)) f
rows_same rows ms f h =
    let left = unused_keys (left_over rows ms) in
    first_same (row_findings rows ms) (row_findings rows ms ++ left) f
    (sym (faults-keys (row_findings rows ms) (left_over rows ms))) h

module _ (K W : Kind Data) (ms : Members) where
  -- a fault of the manifest's rows comes first
  pub first_of_rows : (o : Option Data) (f : ReadFault)
      → FaultIn (first_found ((form (manifest_rows K W)).findings (table ms))) f
      → FaultIn (first_found (old_findings K W ms o)) f
  first_of_rows (Some d) f h =
      first_before (row_findings (manifest_rows K W) ms)
      (found_under (key (codes "project")) ((form (package_rows K)).findings d)
      ++ unused_keys (without (codes "project" ∷ []) (left_over (manifest_rows K W) ms)))
      f (rows_same (manifest_rows K W) ms f h)
  first_of_rows None f h =
      first_before (row_findings (manifest_rows K W) ms)
      (row_findings (package_rows K) ms ++ unused_keys (left_over (package_rows K) (left_over (manifest_rows K W) ms)))
      f (rows_same (manifest_rows K W) ms f h)

  -- and where these are read, a fault of the package
  module _ (k : IsSound K) (w : IsSound W) (m : Manifest) (r : (form (manifest_rows K W)).reads (table ms) m) where
    rows_clean : IsFaultless (row_findings (manifest_rows K W) ms)
    rows_clean =
        sym (faults-keys (row_findings (manifest_rows K W) ms) (left_over (manifest_rows K W) ms))
        ∙ read_clean (form (manifest_rows K W)) (manifest_sound K W k w) (table ms) m r

    pub first_of_package : (o : Option Data) (f : ReadFault) → FaultIn (first_found (old_package_findings K ms o)) f
        → FaultIn (first_found (old_findings K W ms o)) f
    first_of_package (Some d) f h =
        let inside = found_under (key (codes "project")) ((form (package_rows K)).findings d) in
        let rest = unused_keys (without (codes "project" ∷ []) (left_over (manifest_rows K W) ms)) in
        first_after (row_findings (manifest_rows K W) ms) (inside ++ rest) f rows_clean (first_before inside rest f h)
    first_of_package None f h =
        let rest = unused_keys (left_over (package_rows K) (left_over (manifest_rows K W) ms)) in
        first_after (row_findings (manifest_rows K W) ms) (row_findings (package_rows K) ms ++ rest) f rows_clean
        (first_before (row_findings (package_rows K) ms) rest f (rows_same (package_rows K) ms f h))
