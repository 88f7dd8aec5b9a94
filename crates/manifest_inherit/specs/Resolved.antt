-- What a manifest becomes over a workspace. What that does not have stays as it is; `Refused` says that it is refused.
use Rattle.manifest_schema.specs.Prelude.{option_or, list_any, lookup, bytes_eq, Text, Inheritable, inherited, local, Entries, InheritedDependencyDetail, DependencyDetail, Dependency, simple, by_workspace, detailed, Lint, MaybeInheritedLintsSet, Target, Package, WorkspacePackage, Workspace, Manifest}
use Rattle.std.specs.Prelude.{List, [], ◌∷◌, ◌++◌, map, if◌then◌else◌, Option, Some, None, option_map, unwrap_or}
use Rattle.manifest_parts.specs.Queries.{simplify}
use Rattle.manifest_inherit.specs.Fields.{Fields, no_more, ◌⨾◌, lendable}

-- A FIELD of a package: where it is inherited, it becomes the package's own, with the content of the workspace's
abbrev pub resolved_field :
    {A : Type 0} → Option (Inheritable A) → Option A → Option (Inheritable A)
resolved_field (Some inherited) (Some x) = Some (local x)
resolved_field own shared = own

abbrev pub resolved_fields : Fields → Option WorkspacePackage → Package → Package
resolved_fields no_more w p = p
resolved_fields (f ⨾ fs) w p =
    f.with_content (resolved_fields fs w p) (resolved_field (f.own p) (f.shared w))

-- A PACKAGE: its sixteen fields, and nothing else
unfoldable pub resolved_package : Option WorkspacePackage → Package → Package
resolved_package w p = resolved_fields lendable w p

-- A DEPENDENCY
-- the workspace's dependency of this name
abbrev pub workspace_dependency : Entries Dependency → Text → Option Dependency
workspace_dependency shared name = lookup (bytes_eq name) shared

-- a version alone is a detail that says no more
abbrev pub version_alone : Text → DependencyDetail
version_alone v = record {
  version = Some v;
  registry = None;
  registry_index = None;
  path = None;
  git = None;
  branch = None;
  tag = None;
  rev = None;
  features = None;
  «optional» = None;
  default_features = None;
  «package» = None;
}

-- the detail that is inherited from it; there is none where the workspace itself inherits
abbrev pub shared_by : Option Dependency → Option DependencyDetail
shared_by None = None
shared_by (Some (simple v)) = Some (version_alone v)
shared_by (Some (by_workspace d)) = None
shared_by (Some (detailed d)) = Some d

-- the features that are not among those that are there, each where it comes first
abbrev pub new_features : List Text → List Text → List Text
new_features had [] = []
new_features had (f ∷ fs) =
    if list_any (λ h. bytes_eq h f) had then new_features had fs
    else f ∷ new_features (had ++ f ∷ []) fs

-- the workspace's features, then those that the member adds; none are said where neither says any
abbrev pub joined_features : Option (List Text) → Option (List Text) → Option (List Text)
joined_features None None = None
joined_features shared own =
    Some (unwrap_or shared [] ++ new_features (unwrap_or shared []) (unwrap_or own []))

-- the workspace's detail, with the features of both; `optional` and, where it says them, default features of the member
abbrev pub joined : InheritedDependencyDetail → DependencyDetail → DependencyDetail
joined own shared = record shared {
  features = joined_features shared.features own.features;
  «optional» = own.«optional»;
  default_features = option_or own.default_features shared.default_features;
}

abbrev pub with_shared : InheritedDependencyDetail → Option DependencyDetail → Dependency
with_shared own None = by_workspace own
with_shared own (Some d) = simplify (detailed (joined own d))

-- the dependency of this name: if inherited, what the workspace's dependency of the name makes of it, simplified
abbrev pub resolved_dependency : Entries Dependency → Text → Dependency → Dependency
resolved_dependency shared name (by_workspace own) =
    with_shared own (shared_by (workspace_dependency shared name))
resolved_dependency shared name d = d

-- A MAP: each entry by its name, in its place
abbrev pub resolved_entries : {A : Type 0} → (Text → A → A) → Entries A → Entries A
resolved_entries resolved es = map (λ e. (e.0, resolved e.0 e.1)) es

abbrev pub resolved_dependencies : Entries Dependency → Entries Dependency → Entries Dependency
resolved_dependencies shared = resolved_entries (resolved_dependency shared)

-- A PLATFORM: its three maps of dependencies
abbrev pub resolved_platform : Entries Dependency → Target → Target
resolved_platform shared p = record {
  dependencies = resolved_dependencies shared p.dependencies;
  dev_dependencies = resolved_dependencies shared p.dev_dependencies;
  build_dependencies = resolved_dependencies shared p.build_dependencies;
}

abbrev pub resolved_platforms : Entries Dependency → Entries Target → Entries Target
resolved_platforms shared = resolved_entries (λ name. resolved_platform shared)

-- LINTS: where they are inherited, they become the workspace's
abbrev pub resolved_lints_by :
    Option (Unit {0}) → Option (Entries (Entries Lint)) → MaybeInheritedLintsSet →
    MaybeInheritedLintsSet
resolved_lints_by (Some u) (Some tools) own = record { workspace = None; lints = tools }
resolved_lints_by inherits shared own = own

abbrev pub resolved_lints :
    Option (Entries (Entries Lint)) → MaybeInheritedLintsSet → MaybeInheritedLintsSet
resolved_lints shared own = resolved_lints_by own.workspace shared own

-- the dependencies inherited from a workspace
abbrev pub shared_dependencies : Workspace → Entries Dependency
shared_dependencies w = unwrap_or w.dependencies []

-- THE RESOLVED MANIFEST; its `patch`, its own `workspace` and all else stay
unfoldable pub resolved : Manifest → Workspace → Manifest
resolved m w = record m {
  «package» = option_map (resolved_package w.«package») m.«package»;
  dependencies = option_map (resolved_dependencies (shared_dependencies w)) m.dependencies;
  dev_dependencies = option_map (resolved_dependencies (shared_dependencies w)) m.dev_dependencies;
  build_dependencies =
      option_map (resolved_dependencies (shared_dependencies w)) m.build_dependencies;
  target = option_map (resolved_platforms (shared_dependencies w)) m.target;
  lints = option_map (resolved_lints w.lints) m.lints;
}
