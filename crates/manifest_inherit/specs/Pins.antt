-- What is inherited and cannot be, at which key path of the manifest, and why: said without the list of refusals.
use Rattle.manifest_schema.specs.Prelude.{Contains, IfSome, keys_of, bytes_eq, Text, Path, key, inherited, Entries, InheritedDependencyDetail, Dependency, by_workspace, Lint, MaybeInheritedLintsSet, Target, Package, WorkspacePackage, Workspace, Manifest}
use Rattle.std.specs.Prelude.{◌≡◌, ◌⊎◌, [], ◌∷◌, ◌++◌, codes, Option, Some, None}
use Rattle.std.specs.List.{IsDistinct}
use Rattle.manifest_inherit.specs.Fields.{Field, Fields, no_more, ◌⨾◌, lendable}
use Rattle.manifest_inherit.specs.Resolved.{workspace_dependency, shared_dependencies}
use Rattle.manifest_inherit.specs.Refused.{Refusal, not_in_workspace, inherited_in_workspace, mixed_lints, tool_named_workspace}

-- one of the fields is such
abbrev pub some_field : (Field → Type 0) → Fields → Type 0
some_field P no_more = ⊥
some_field P (f ⨾ fs) = P f ⊎ some_field P fs

-- A FIELD of the package: it is inherited, and the workspace does not have it
abbrev pub field_refused :
    Package → Option WorkspacePackage → Path → Refusal → Field → Type 0
field_refused member w p r f =
    (f.own member ≡ Some inherited) × (f.shared w ≡ None)
    × (p ≡ key (codes "package") ∷ key f.key ∷ []) × (r ≡ not_in_workspace f.key)

abbrev pub package_refused : Manifest → Workspace → Path → Refusal → Type 0
package_refused m w p r =
    (member : Package) × (m.«package» ≡ Some member)
    × some_field (field_refused member w.«package» p r) lendable

-- THE MAPS OF DEPENDENCIES of a manifest and of a platform, by their keys
abbrev pub maps_of : Manifest → Entries (Option (Entries Dependency))
maps_of m =
    (codes "dependencies", m.dependencies)
    ∷ (codes "dev-dependencies", m.dev_dependencies)
    ∷ (codes "build-dependencies", m.build_dependencies)
    ∷ []

abbrev pub platform_maps : Target → Entries (Entries Dependency)
platform_maps t =
    (codes "dependencies", t.dependencies)
    ∷ (codes "dev-dependencies", t.dev_dependencies)
    ∷ (codes "build-dependencies", t.build_dependencies)
    ∷ []

-- the manifest has this map of dependencies at this path
abbrev pub has_map_at : Manifest → Path → Entries Dependency → Type 0
has_map_at m p es =
    ((k : Text) × Contains (maps_of m) (k, Some es) × (p ≡ key k ∷ []))
    ⊎ ((platforms : Entries Target) × (name : Text) × (t : Target) × (k : Text)
    × (m.target ≡ Some platforms) × Contains platforms (name, t)
    × Contains (platform_maps t) (k, es) × (p ≡ key (codes "target") ∷ key name ∷ key k ∷ []))

-- A DEPENDENCY of this name: the workspace has none, or inherits its own
abbrev pub name_unfit : Text → Option Dependency → Refusal → Type 0
name_unfit name shared r =
    ((shared ≡ None) × (r ≡ not_in_workspace name))
    ⊎ ((theirs : InheritedDependencyDetail) × (shared ≡ Some (by_workspace theirs))
    × (r ≡ inherited_in_workspace name))

-- a dependency that is inherited, of one of the maps
abbrev pub dependency_refused : Manifest → Workspace → Path → Refusal → Type 0
dependency_refused m w p r =
    (es : Entries Dependency) × (q : Path) × (name : Text) × (own : InheritedDependencyDetail)
    × has_map_at m q es × Contains es (name, by_workspace own) × (p ≡ q ++ key name ∷ [])
    × name_unfit name (workspace_dependency (shared_dependencies w) name) r

-- LINTS: they are inherited, and have a tool as well; or the workspace has none, or has a tool `workspace`
abbrev pub lints_unfit : Option (Entries (Entries Lint)) → Refusal → Type 0
lints_unfit shared r =
    ((shared ≡ None) × (r ≡ not_in_workspace (codes "lints")))
    ⊎ ((tools : Entries (Entries Lint)) × (x : Entries Lint) × (shared ≡ Some tools)
    × Contains tools (codes "workspace", x) × (r ≡ tool_named_workspace))

abbrev pub lints_refused : Manifest → Workspace → Path → Refusal → Type 0
lints_refused m w p r =
    (own : MaybeInheritedLintsSet) × (m.lints ≡ Some own) × (own.workspace ≡ Some tt)
    × (p ≡ key (codes "lints") ∷ [])
    × (((tool : Text × Entries Lint) × Contains own.lints tool × (r ≡ mixed_lints))
    ⊎ lints_unfit w.lints r)

-- AT THIS PATH of the manifest something is inherited and cannot be, for this reason
abbrev pub refused_at : Manifest → Workspace → Path → Refusal → Type 0
refused_at m w p r =
    package_refused m w p r ⊎ dependency_refused m w p r ⊎ lints_refused m w p r

-- THE KEYS of each map of the manifest differ
abbrev pub HasDistinctKeys : {A : Type 0} → Entries A → Type 0
HasDistinctKeys es = IsDistinct bytes_eq (keys_of es)

pub record KeysDiffer (m : Manifest) : Type 0 where
  pub maps : (p : Path) (es : Entries Dependency) → has_map_at m p es → HasDistinctKeys es
  pub platforms : IfSome m.target HasDistinctKeys
