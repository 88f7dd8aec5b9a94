-- What is resolved stays well-formed, and resolved when it is completed. Its premises are laws of `cargo_manifest`.
use Rattle.manifest_schema.specs.Prelude.{IfSome, Data, Kind, Entries, map_of, good_some, form, none_named, Lint, MaybeInheritedLintsSet, Package, WorkspacePackage, Manifest, lint, lints_rows, package_rows, well_formed}
use Rattle.std.proofs.Common.{◌≡◌, [], ◌∷◌, if◌then◌else◌, Bool, true, false, refl, sym, Option, Some, None, option_map, codes, subst, IsTrue}
use Rattle.manifest_completion.specs.Listings.{ListingMap}
use Rattle.manifest_completion.specs.Completed.{PackageTargets, Completion, completed_to, refused, no_library, completed_targets, targets_of, with_targets, completion_with, completed_by, completed}
use Rattle.manifest_completion.specs.Laws.{CompletedIsFixed}
use Rattle.cargo_manifest.specs.WellFormed.{PackageByMetadata, WorkspaceByParts, ManifestByParts}
use Rattle.manifest_inherit.specs.Fields.{lendable}
use Rattle.manifest_inherit.specs.Resolved.{resolved_package, resolved_lints_by, resolved_lints, resolved}
use Rattle.manifest_fault.specs.Placed.{placed_here}
use Rattle.manifest_inherit.specs.Refused.{tool_named_workspace, tools_refusals, lints_refusals_by, lints_refusals, some_refusals}
use Rattle.manifest_inherit.specs.Own.{AreOwn, InheritsNothing}
use Rattle.manifest_inherit.specs.Laws.{ResolvedIsWellFormed, CompletedStaysResolved}
use Rattle.manifest_inherit.proofs.FirstLemmas.{none_in_both, none_in_parts}
use Rattle.manifest_inherit.proofs.SettledLaws.{resolved_is_settled, own_is_settled}

-- WELL-FORMED
-- the metadata of a package is not inherited
metadata_stays : (w : Option WorkspacePackage) (p : Package) → (resolved_package w p).metadata ≡ p.metadata
unfolding lendable resolved_package
metadata_stays w p = refl

package_formed : (K : Kind Data) → PackageByMetadata K → (w : Option WorkspacePackage) (o : Option Package)
    → good_some (form (package_rows K)) o → good_some (form (package_rows K)) (option_map (resolved_package w) o)
package_formed K by w None g = tt
package_formed K by w (Some p) g = (by (resolved_package w p)).1 (subst (good_some K) (sym (metadata_stays w p))
    ((by p).0 g))

is_true_of : (b : Bool) → (if b then [] else placed_here tool_named_workspace) ≡ [] → IsTrue b
is_true_of true h = refl
is_true_of false h = cc

lints_by_formed : (u : Option (Unit {0})) (shared : Option (Entries (Entries Lint))) (l : MaybeInheritedLintsSet)
    → good_some (map_of (map_of lint)) shared → (form lints_rows).good l → lints_refusals_by u shared l ≡ []
    → (form lints_rows).good (resolved_lints_by u shared l)
unfolding lints_rows
lints_by_formed None shared l k g h = g
lints_by_formed (Some u) None l k g h = g
lints_by_formed (Some u) (Some tools) l k g h =
    (tt, (is_true_of (none_named (codes "workspace" ∷ []) tools) (none_in_both (tools_refusals l.lints) _ h).1, k))

lints_formed : (shared : Option (Entries (Entries Lint))) (o : Option MaybeInheritedLintsSet)
    → good_some (map_of (map_of lint)) shared → good_some (form lints_rows) o → some_refusals (lints_refusals shared)
    o ≡ []
    → good_some (form lints_rows) (option_map (resolved_lints shared) o)
lints_formed shared None k g h = tt
lints_formed shared (Some l) k g h = lints_by_formed l.workspace shared l k g h

module _ (K W V : Kind Data) (package_by : PackageByMetadata K) (workspace_by : WorkspaceByParts V)
    (manifest_by : ManifestByParts K W) where
  pub stays_well_formed : ResolvedIsWellFormed K W V
  unfolding resolved
  stays_well_formed m n w g k h =
      let parts = (manifest_by m).0 g in
      let lints = lints_formed w.lints m.lints ((workspace_by w).0 k).1 parts.3 (none_in_parts m w h.accepted).5 in
      let formed : well_formed K W (resolved m w) = (manifest_by (resolved m w)).1 (
        package_formed K package_by
            w.«package» m.«package» parts.0,
        parts.1,
        parts.2,
        lints,
      ) in
      subst (well_formed K W) (sym h.becomes) formed

-- COMPLETION keeps what resolving looks at
targets_own : (p : Package) (m : Manifest) (t : PackageTargets) → m.«package» ≡ Some p → InheritsNothing m
    → InheritsNothing (with_targets p m t)
unfolding lendable
targets_own p m t e h = record {
  fields = subst (λ o. IfSome o (AreOwn lendable)) e h.fields;
  dependencies = h.dependencies;
  dev_dependencies = h.dev_dependencies;
  build_dependencies = h.build_dependencies;
  platforms = h.platforms;
  lints = h.lints;
}

completed_own : (m n : Manifest) (l : ListingMap) → InheritsNothing m → completed m l ≡ completed_to n
    → InheritsNothing n
completed_own m n l h c = by_package m.«package» refl c
  where
    by_completion : (p : Package) → m.«package» ≡ Some p → (t : Completion PackageTargets)
        → completion_with p m t ≡ completed_to n → InheritsNothing n
    by_completion p e (completed_to t) x = let made : with_targets p m t ≡ n = cc x in subst InheritsNothing made
        (targets_own p m t e h)
    by_completion p e (refused k) x = cc
    by_completion p e no_library x = cc

    by_package : (o : Option Package) → m.«package» ≡ o → completed_by o m l ≡ completed_to n → InheritsNothing n
    by_package None e x = let same : m ≡ n = cc x in subst InheritsNothing same h
    by_package (Some p) e x = by_completion p e (completed_targets (targets_of p m) l) x

pub completed_stays : (K W V : Kind Data) → ResolvedIsWellFormed K W V → CompletedIsFixed K W → CompletedStaysResolved K
    W V
completed_stays K W V formed fixed m n o w l g v h c =
    let own = completed_own n o l (resolved_is_settled m n w h).own c in
    (own_is_settled o w own, (fixed n o l (formed m n w g v h) c).unchanged)
