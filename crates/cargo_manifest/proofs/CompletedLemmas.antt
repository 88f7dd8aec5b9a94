-- What completion makes of a manifest keeps what the manifest kept.
use Rattle.manifest_schema.specs.Prelude.{IfSome, Package, Manifest, HasValidDates, KeepsValidDates}
use Rattle.std.proofs.Common.{◌≡◌, refl, Option, Some, None, subst}
use Rattle.manifest_completion.specs.Listings.{ListingMap}
use Rattle.manifest_completion.specs.Completed.{PackageTargets, Completion, completed_to, refused, no_library, completed_targets, targets_of, with_targets, completion_with, completed_by}
use Rattle.cargo_manifest.specs.Dates.{CompletedDatesAreValid}

module _ (m n : Manifest) (kept_by : KeepsValidDates m) where
  -- the package with other targets keeps its metadata
  by_targets : (p : Package) → m.«package» ≡ Some p → (t : Completion PackageTargets)
      → completion_with p m t ≡ completed_to n → KeepsValidDates n
  by_targets p e (completed_to t) x =
      let made : with_targets p m t ≡ n = cc x in
      let metadata = subst (λ o. IfSome o (λ q. IfSome q.metadata HasValidDates)) e kept_by.package in
      subst KeepsValidDates made (record {
        «package» = metadata;
        workspace = kept_by.workspace;
        profile =
            kept_by.profile;
      })
  by_targets p e (refused k) x = cc
  by_targets p e no_library x = cc

  by_package : (l : ListingMap) (o : Option Package) → m.«package» ≡ o → completed_by o m l ≡ completed_to n
      → KeepsValidDates n
  by_package l None e x = let same : m ≡ n = cc x in subst KeepsValidDates same kept_by
  by_package l (Some p) e x = by_targets p e (completed_targets (targets_of p m) l) x

pub completed_dates_are_valid : CompletedDatesAreValid
completed_dates_are_valid m n l kept_by x = by_package m n kept_by l m.«package» refl x
