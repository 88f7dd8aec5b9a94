-- A fault of a custom profile is a fault of the profiles, and the first one where the others are read.
use Rattle.manifest_schema.specs.Prelude.{Members, table, without, form, spelled, profile_rows, profiles_rows, first_found, entry_findings, form_findings, IsFaultless}
use Rattle.std.proofs.Common.{◌≡◌, subst}
use Rattle.manifest_fault.specs.Faults.{FaultIn}
use Rattle.manifest_fault.specs.declared.fault.ReadFault.{ReadFault}
use Rattle.manifest_value.specs.FoundRows.{findings_from, other_findings}
use Rattle.manifest_value.proofs.FoundLemmas.{open_found}
use Rattle.manifest_value.proofs.FirstLemmas.{first_before, first_after}

module _ (ms : Members) (f : ReadFault) where
  pub named_first : FaultIn (first_found (findings_from 0 profiles_rows ms)) f
      → FaultIn (first_found (form_findings profiles_rows (table ms))) f
  unfolding profiles_rows
  named_first h =
      subst (λ fs. FaultIn (first_found fs) f) (open_found profiles_rows ms tt)
      (first_before (findings_from 0 profiles_rows ms) (other_findings (spelled profiles_rows) profiles_rows ms) f h)

  pub custom_first : (rest : Members) → rest ≡ without (spelled profiles_rows) ms
      → IsFaultless (findings_from 0 profiles_rows ms)
      → FaultIn (first_found (entry_findings (form profile_rows).findings rest)) f
      → FaultIn (first_found (form_findings profiles_rows (table ms))) f
  unfolding profiles_rows
  custom_first rest whole clean h =
      subst (λ fs. FaultIn (first_found fs) f) (open_found profiles_rows ms tt)
      (first_after (findings_from 0 profiles_rows ms) (other_findings (spelled profiles_rows) profiles_rows ms) f clean
      (subst (λ r. FaultIn (first_found (entry_findings (form profile_rows).findings r)) f) whole h))
