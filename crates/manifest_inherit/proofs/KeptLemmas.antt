-- What is resolved keeps what the manifest kept.
use Rattle.manifest_schema.specs.Prelude.{IfSome, Package, WorkspacePackage, Workspace, Manifest, HasValidDates, KeepsValidDates}
use Rattle.std.proofs.Common.{sym, Option, Some, None, option_map, subst}
use Rattle.manifest_inherit.specs.Fields.{lendable}
use Rattle.manifest_inherit.specs.Resolved.{resolved_package, resolved}
use Rattle.manifest_inherit.specs.Laws.{ResolvedDatesAreValid}

-- the metadata of a package is not inherited
package_keeps : (w : Option WorkspacePackage) (o : Option Package) → IfSome o (λ p. IfSome p.metadata HasValidDates)
    → IfSome (option_map (resolved_package w) o) (λ p. IfSome p.metadata HasValidDates)
unfolding lendable resolved_package
package_keeps w None h = h
package_keeps w (Some p) h = h

manifest_keeps : (m : Manifest) (w : Workspace) → KeepsValidDates m → KeepsValidDates (resolved m w)
unfolding resolved
manifest_keeps m w h = record {
  «package» = package_keeps w.«package» m.«package» h.package;
  workspace =
      h.workspace;
  profile = h.profile;
}

pub resolved_dates_are_valid : ResolvedDatesAreValid
resolved_dates_are_valid m n w h is = subst KeepsValidDates (sym is.becomes) (manifest_keeps m w h)
