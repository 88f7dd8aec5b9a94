-- What it comes down to that a package, a workspace or a manifest is well-formed.
use Rattle.manifest_schema.specs.Prelude.{Data, Kind, map_of, good_some, form, Workspace, lint, workspace_rows}
use Rattle.manifest_schema.proofs.Values.GoodLaws.{package_good, package_metadata_good, workspace_good, workspace_metadata_good, manifest_good, manifest_parts_good}
use Rattle.cargo_manifest.specs.WellFormed.{PackageByMetadata, WorkspaceByParts, ManifestByParts}

lints_good : (K : Kind Data) (w : Workspace) → (form (workspace_rows K)).good w → good_some (map_of (map_of lint))
    w.lints
unfolding workspace_rows
lints_good K w g = assumption

pub package_by_metadata : (K : Kind Data) → PackageByMetadata K
package_by_metadata K p = (package_metadata_good K p, package_good K p)

pub workspace_by_parts : (K : Kind Data) → WorkspaceByParts K
workspace_by_parts K w = (λ h. (workspace_metadata_good K w h, lints_good K w h), λ h. workspace_good K w h.0 h.1)

pub manifest_by_parts : (K W : Kind Data) → ManifestByParts K W
manifest_by_parts K W m = (manifest_parts_good K W m, λ h. manifest_good K W m h.0 h.1 h.2 h.3)
