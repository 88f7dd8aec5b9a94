-- The forms of a package, a workspace and a manifest satisfy the laws.
use Rattle.manifest_schema.specs.Prelude.{Data, Kind, form, distinct, IsSound, AreSound, IsBuilt, package_rows, workspace_package_rows, workspace_rows, manifest_rows}
use Rattle.std.proofs.Common.{IsTrue, refl}
use Rattle.manifest_schema.proofs.Forms.Built.{turned, built}
use Rattle.manifest_schema.proofs.Forms.FormLaws.{form_sound}
use Rattle.manifest_schema.proofs.Forms.RowLaws.{row_laws}
use Rattle.manifest_schema.proofs.Forms.PartLaws.{dependency_sound, lint_sound, product_sound, badges_sound, profiles_sound, lints_sound, platform_sound}

-- PACKAGE
pub package_built : (K : Kind Data) → IsBuilt (package_rows K)
unfolding package_rows
package_built K = built (package_rows K) (λ F m. hlevel turned) (λ x. refl) (λ t. refl)

pub package_rows_sound : (K : Kind Data) → IsSound K → AreSound (package_rows K)
unfolding package_rows
package_rows_sound K k = search row_laws

pub package_distinct : (K : Kind Data) → IsTrue (distinct (package_rows K))
unfolding package_rows
package_distinct K = refl

pub package_sound : (K : Kind Data) → IsSound K → IsSound (form (package_rows K))
package_sound K k = form_sound (package_rows K) (package_rows_sound K k) (package_built K) (package_distinct K)

-- WORKSPACE
pub workspace_package_built : IsBuilt workspace_package_rows
unfolding workspace_package_rows
workspace_package_built = built workspace_package_rows (λ F m. hlevel turned) (λ x. refl) (λ t. refl)

pub workspace_package_sound : IsSound (form workspace_package_rows)
unfolding workspace_package_rows
workspace_package_sound = form_sound workspace_package_rows (search row_laws) workspace_package_built refl

pub workspace_built : (K : Kind Data) → IsBuilt (workspace_rows K)
unfolding workspace_rows
workspace_built K = built (workspace_rows K) (λ F m. hlevel turned) (λ x. refl) (λ t. refl)

pub workspace_sound : (K : Kind Data) → IsSound K → IsSound (form (workspace_rows K))
unfolding workspace_rows
workspace_sound K k =
    form_sound (workspace_rows K) (search (row_laws, dependency_sound, workspace_package_sound, lint_sound))
    (workspace_built K) refl

-- MANIFEST
pub manifest_built : (K W : Kind Data) → IsBuilt (manifest_rows K W)
unfolding manifest_rows
manifest_built K W = built (manifest_rows K W) (λ F m. hlevel turned) (λ x. refl) (λ t. refl)

pub manifest_rows_sound : (K W : Kind Data) → IsSound K → IsSound W → AreSound (manifest_rows K W)
unfolding manifest_rows
manifest_rows_sound K W k w =
    search (
      row_laws,
      package_sound,
      workspace_sound,
      dependency_sound,
      platform_sound,
      product_sound,
      profiles_sound,
      badges_sound,
      lints_sound,
    )

pub manifest_distinct : (K W : Kind Data) → IsTrue (distinct (manifest_rows K W))
unfolding manifest_rows
manifest_distinct K W = refl

pub manifest_sound : (K W : Kind Data) → IsSound K → IsSound W → IsSound (form (manifest_rows K W))
manifest_sound K W k w =
    form_sound (manifest_rows K W) (manifest_rows_sound K W k w) (manifest_built K W) (manifest_distinct K W)
