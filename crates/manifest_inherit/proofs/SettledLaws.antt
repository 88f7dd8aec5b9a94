-- What is resolved inherits nothing, and what inherits nothing is resolved to itself.
use Rattle.manifest_schema.specs.Prelude.{IfSome, Text, Entries, InheritedDependencyDetail, DependencyDetail, Dependency, simple, by_workspace, detailed, Lint, MaybeInheritedLintsSet, Target, Workspace, Manifest, AllValues}
use Rattle.std.proofs.Common.{◌≡◌, [], ◌∷◌, Bool, true, false, refl, ap, sym, Option, Some, None, option_map, subst}
use Rattle.manifest_parts.specs.Queries.{says_more, simplify}
use Rattle.manifest_inherit.specs.Fields.{lendable}
use Rattle.manifest_inherit.specs.Resolved.{resolved_package, workspace_dependency, version_alone, shared_by, joined, with_shared, resolved_dependency, resolved_entries, resolved_dependencies, resolved_platform, resolved_platforms, resolved_lints_by, resolved_lints, shared_dependencies, resolved}
use Rattle.manifest_fault.specs.Placed.{placed_under}
use Rattle.manifest_inherit.specs.Refused.{PlacedRefusals, lender_refusals, dependency_refusals, entries_refusals, dependencies_refusals, platform_refusals, platforms_refusals, tools_refusals, lints_refusals_by, lints_refusals, some_refusals, all_refusals}
use Rattle.manifest_inherit.specs.Own.{AreOwn, IsOwnDependency, AreOwnDependencies, IsOwnPlatform, AreOwnPlatforms, AreOwnLints, InheritsNothing}
use Rattle.manifest_inherit.specs.Laws.{ResolvedIsSettled, OwnIsSettled}
use Rattle.manifest_inherit.proofs.FirstLemmas.{none_in_both, none_below, none_in_parts, all_none}
use Rattle.manifest_inherit.proofs.FieldLaws.{package_own, package_same, package_accepted}

-- A DEPENDENCY
simple_own : (more : Bool) (v : Option Text) (d : DependencyDetail) → d.version ≡ v → says_more d ≡ more
    → IsOwnDependency (simplify (detailed d))
simple_own true v d e m = rw m tt
simple_own false None d e m = rw (m, e) tt
simple_own false (Some v) d e m = rw (m, e) tt

shared_own : (name : Text) (own : InheritedDependencyDetail) (shared : Option Dependency)
    → lender_refusals name shared ≡ [] → IsOwnDependency (with_shared own (shared_by shared))
shared_own name own None h = cc
shared_own name own (Some (by_workspace d)) h = cc
shared_own name own (Some (simple v)) h = simple_own _ _ (joined own (version_alone v)) refl refl
shared_own name own (Some (detailed d)) h = simple_own _ _ (joined own d) refl refl

dependency_own : (shared : Entries Dependency) (name : Text) (d : Dependency)
    → dependency_refusals shared name d ≡ [] → IsOwnDependency (resolved_dependency shared name d)
dependency_own shared name (simple v) h = tt
dependency_own shared name (detailed d) h = tt
dependency_own shared name (by_workspace own) h = shared_own name own (workspace_dependency shared name) h

dependency_same : (shared : Entries Dependency) (name : Text) (d : Dependency) → IsOwnDependency d
    → resolved_dependency shared name d ≡ d
dependency_same shared name (simple v) h = refl
dependency_same shared name (detailed d) h = refl
dependency_same shared name (by_workspace own) h = absurd h

dependency_accepted : (shared : Entries Dependency) (name : Text) (d : Dependency)
    → IsOwnDependency d → dependency_refusals shared name d ≡ []
dependency_accepted shared name (simple v) h = refl
dependency_accepted shared name (detailed d) h = refl
dependency_accepted shared name (by_workspace own) h = absurd h

-- A MAP
entries_own : {A : Type 0} (R : Text → A → PlacedRefusals) (P : A → Type 0) (f : Text → A → A)
    → ((k : Text) (x : A) → R k x ≡ [] → P (f k x)) → (es : Entries A) → entries_refusals R es ≡ []
    → AllValues P (resolved_entries f es)
entries_own R P f k [] h = tt
entries_own R P f k (e ∷ es) h =
    let (here, more) = none_in_both (placed_under e.0 (R e.0 e.1)) (entries_refusals R es) h in
    (k e.0 e.1 (none_below e.0 (R e.0 e.1) here), entries_own R P f k es more)

entries_same : {A : Type 0} (P : A → Type 0) (f : Text → A → A) → ((k : Text) (x : A) → P x → f k x ≡ x)
    → (es : Entries A) → AllValues P es → resolved_entries f es ≡ es
entries_same P f k [] h = refl
entries_same P f k (e ∷ es) h = rw (k e.0 e.1 h.0, entries_same P f k es h.1) refl

entries_accepted : {A : Type 0} (R : Text → A → PlacedRefusals) (P : A → Type 0)
    → ((k : Text) (x : A) → P x → R k x ≡ []) → (es : Entries A) → AllValues P es → entries_refusals R es ≡ []
entries_accepted R P k [] h = refl
entries_accepted R P k (e ∷ es) h = rw (k e.0 e.1 h.0) (entries_accepted R P k es h.1)

dependencies_own : (shared es : Entries Dependency)
    → dependencies_refusals shared es ≡ [] → AreOwnDependencies (resolved_dependencies shared es)
dependencies_own shared = entries_own _ IsOwnDependency _ (dependency_own shared)

dependencies_same : (shared es : Entries Dependency) → AreOwnDependencies es → resolved_dependencies shared es ≡ es
dependencies_same shared = entries_same IsOwnDependency (resolved_dependency shared) (dependency_same shared)

dependencies_accepted : (shared es : Entries Dependency) → AreOwnDependencies es → dependencies_refusals shared es ≡ []
dependencies_accepted shared = entries_accepted _ IsOwnDependency (dependency_accepted shared)

-- A PLATFORM
platform_own : (shared : Entries Dependency) (p : Target)
    → platform_refusals shared p ≡ [] → IsOwnPlatform (resolved_platform shared p)
platform_own shared p h =
    let (ab, c) = none_in_both _ _ h in
    let (a, b) = none_in_both _ _ ab in (
      dependencies_own shared p.dependencies (none_below _ _ a),
      dependencies_own shared p.dev_dependencies (none_below _ _ b),
      dependencies_own shared p.build_dependencies (none_below _ _ c),
    )

platform_same : (shared : Entries Dependency) (p : Target) → IsOwnPlatform p → resolved_platform shared p ≡ p
platform_same shared p h = rw (
  dependencies_same shared p.dependencies h.0,
  dependencies_same shared p.dev_dependencies
      h.1,
  dependencies_same shared p.build_dependencies h.2,
) refl

platform_accepted : (shared : Entries Dependency) (p : Target) → IsOwnPlatform p → platform_refusals shared p ≡ []
platform_accepted shared p h =
    rw (
      dependencies_accepted shared p.dependencies h.0,
      dependencies_accepted shared p.dev_dependencies h.1,
      dependencies_accepted shared p.build_dependencies h.2,
    ) refl

platforms_own : (shared : Entries Dependency) (es : Entries Target)
    → platforms_refusals shared es ≡ [] → AreOwnPlatforms (resolved_platforms shared es)
platforms_own shared = entries_own _ IsOwnPlatform _ (λ name. platform_own shared)

platforms_same : (shared : Entries Dependency) (es : Entries Target) → AreOwnPlatforms es → resolved_platforms shared
    es ≡ es
platforms_same shared = entries_same IsOwnPlatform (λ name. resolved_platform shared) (λ name. platform_same shared)

platforms_accepted : (shared : Entries Dependency) (es : Entries Target)
    → AreOwnPlatforms es → platforms_refusals shared es ≡ []
platforms_accepted shared = entries_accepted _ IsOwnPlatform (λ name. platform_accepted shared)

-- LINTS
lints_by_own : (u : Option (Unit {0})) (shared : Option (Entries (Entries Lint))) (l : MaybeInheritedLintsSet)
    → l.workspace ≡ u → lints_refusals_by u shared l ≡ [] → AreOwnLints (resolved_lints_by u shared l)
lints_by_own None shared l e h = e
lints_by_own (Some u) (Some tools) l e h = refl
lints_by_own (Some u) None l e h = let more = (none_in_both (tools_refusals l.lints) _ h).1 in cc more

lints_own : (shared : Option (Entries (Entries Lint))) (l : MaybeInheritedLintsSet)
    → lints_refusals shared l ≡ [] → AreOwnLints (resolved_lints shared l)
lints_own shared l h = lints_by_own l.workspace shared l refl h

lints_same : (shared : Option (Entries (Entries Lint))) (l : MaybeInheritedLintsSet) → AreOwnLints l
    → resolved_lints shared l ≡ l
lints_same shared l e = ap (λ (u : Option (Unit {0})). resolved_lints_by u shared l) e

lints_accepted : (shared : Option (Entries (Entries Lint))) (l : MaybeInheritedLintsSet)
    → AreOwnLints l → lints_refusals shared l ≡ []
lints_accepted shared l e = ap (λ (u : Option (Unit {0})). lints_refusals_by u shared l) e

-- WHAT MAY BE ABSENT
some_own : {A : Type 0} (R : A → PlacedRefusals) (P : A → Type 0) (f : A → A)
    → ((x : A) → R x ≡ [] → P (f x)) → (o : Option A) → some_refusals R o ≡ [] → IfSome (option_map f o) P
some_own R P f k None h = tt
some_own R P f k (Some x) h = k x h

some_same : {A : Type 0} (P : A → Type 0) (f : A → A) → ((x : A) → P x → f x ≡ x) → (o : Option A) → IfSome o P
    → option_map f o ≡ o
some_same P f k None h = refl
some_same P f k (Some x) h = ap Some (k x h)

some_accepted : {A : Type 0} (R : A → PlacedRefusals) (P : A → Type 0)
    → ((x : A) → P x → R x ≡ []) → (o : Option A) → IfSome o P → some_refusals R o ≡ []
some_accepted R P k None h = refl
some_accepted R P k (Some y) h = k y h

-- THE MANIFEST
module _ (m : Manifest) (w : Workspace) where
  inherits_nothing : all_refusals m w ≡ [] → InheritsNothing (resolved m w)
  unfolding resolved
  inherits_nothing h =
      let shared = shared_dependencies w in
      let (a, b, c, d, e, f) = none_in_parts m w h in
      record {
        fields = some_own _ (AreOwn lendable) _ (package_own w.«package») m.«package» a;
        dependencies = some_own _ AreOwnDependencies _ (dependencies_own shared) m.dependencies b;
        dev_dependencies = some_own _ AreOwnDependencies _ (dependencies_own shared) m.dev_dependencies c;
        build_dependencies = some_own _ AreOwnDependencies _ (dependencies_own shared) m.build_dependencies d;
        platforms = some_own _ AreOwnPlatforms _ (platforms_own shared) m.target e;
        lints = some_own _ AreOwnLints _ (lints_own w.lints) m.lints f;
      }

  own_same : InheritsNothing m → resolved m w ≡ m
  unfolding resolved
  own_same h =
      let shared = shared_dependencies w in
      rw (
        some_same (AreOwn lendable) (resolved_package w.«package») (package_same w.«package») m.«package» h.fields,
        some_same AreOwnDependencies (resolved_dependencies shared) (dependencies_same shared) m.dependencies
            h.dependencies,
        some_same AreOwnDependencies (resolved_dependencies shared) (dependencies_same shared) m.dev_dependencies
            h.dev_dependencies,
        some_same AreOwnDependencies (resolved_dependencies shared) (dependencies_same shared) m.build_dependencies
            h.build_dependencies,
        some_same AreOwnPlatforms (resolved_platforms shared) (platforms_same shared) m.target h.platforms,
        some_same AreOwnLints (resolved_lints w.lints) (lints_same w.lints) m.lints h.lints,
      ) refl

  own_accepted : InheritsNothing m → all_refusals m w ≡ []
  own_accepted h =
      let shared = shared_dependencies w in
      all_none m w (some_accepted _ (AreOwn lendable) (package_accepted w.«package») m.«package» h.fields)
      (some_accepted _ AreOwnDependencies (dependencies_accepted shared) m.dependencies h.dependencies)
      (some_accepted _ AreOwnDependencies (dependencies_accepted shared) m.dev_dependencies h.dev_dependencies)
      (some_accepted _ AreOwnDependencies (dependencies_accepted shared) m.build_dependencies h.build_dependencies)
      (some_accepted _ AreOwnPlatforms (platforms_accepted shared) m.target h.platforms)
      (some_accepted _ AreOwnLints (lints_accepted w.lints) m.lints h.lints)

pub own_is_settled : OwnIsSettled
own_is_settled m w h = record {
  own = h;
  again = record {
    accepted = own_accepted m w h;
    becomes =
        sym (own_same m w h);
  };
}

pub resolved_is_settled : ResolvedIsSettled
resolved_is_settled m n w h = own_is_settled n w (subst InheritsNothing (sym h.becomes)
    (inherits_nothing m w h.accepted))
