-- Why a manifest is not resolved over a workspace: each refusal, at the key path in the manifest of what is inherited
-- there. Several refusals may hold at once.
use Rattle.manifest_schema.specs.Prelude.{Text, Path, Inheritable, inherited, Entries, none_named, Dependency, by_workspace, Lint, MaybeInheritedLintsSet, Target, Package, WorkspacePackage, Workspace, Manifest}
use Rattle.std.specs.Prelude.{List, [], ◌∷◌, ◌++◌, if◌then◌else◌, codes, Option, Some, None}
use Rattle.manifest_fault.specs.Placed.{placed_here, placed_under}
use Rattle.manifest_inherit.specs.Fields.{Fields, no_more, ◌⨾◌, lendable}
use Rattle.manifest_inherit.specs.Resolved.{workspace_dependency, shared_dependencies}

pub data Refusal : Type 0 where
  -- the workspace has no field or dependency of this name, or no `lints`
  not_in_workspace : Text → Refusal
  -- the workspace's own dependency of this name is inherited
  inherited_in_workspace : Text → Refusal
  -- lints that are inherited have a tool as well
  mixed_lints : Refusal
  -- the workspace has lints of a tool `workspace`, and lints of a member can have no such tool
  tool_named_workspace : Refusal

-- refusals in their order, each at its path from the value that is looked at
abbrev pub PlacedRefusals : Type 0
PlacedRefusals = List (Path × Refusal)

-- A FIELD, under its key: it is inherited, and the workspace does not have it
abbrev pub field_refusals :
    {A : Type 0} → Text → Option (Inheritable A) → Option A → PlacedRefusals
field_refusals name (Some inherited) None =
    placed_under name (placed_here (not_in_workspace name))
field_refusals name own shared = []

abbrev pub fields_refusals : Fields → Option WorkspacePackage → Package → PlacedRefusals
fields_refusals no_more w p = []
fields_refusals (f ⨾ fs) w p =
    field_refusals f.key (f.own p) (f.shared w) ++ fields_refusals fs w p

-- A DEPENDENCY: it is inherited, and the workspace has none of the name, or inherits its own
abbrev pub lender_refusals : Text → Option Dependency → PlacedRefusals
lender_refusals name None = placed_here (not_in_workspace name)
lender_refusals name (Some (by_workspace d)) = placed_here (inherited_in_workspace name)
lender_refusals name (Some d) = []

abbrev pub dependency_refusals : Entries Dependency → Text → Dependency → PlacedRefusals
dependency_refusals shared name (by_workspace own) =
    lender_refusals name (workspace_dependency shared name)
dependency_refusals shared name d = []

-- A MAP: those of each entry, under its key
abbrev pub entries_refusals :
    {A : Type 0} → (Text → A → PlacedRefusals) → Entries A → PlacedRefusals
entries_refusals refusals [] = []
entries_refusals refusals (e ∷ es) =
    placed_under e.0 (refusals e.0 e.1) ++ entries_refusals refusals es

abbrev pub dependencies_refusals : Entries Dependency → Entries Dependency → PlacedRefusals
dependencies_refusals shared = entries_refusals (dependency_refusals shared)

-- A PLATFORM: those of its three maps
abbrev pub platform_refusals : Entries Dependency → Target → PlacedRefusals
platform_refusals shared p =
    placed_under (codes "dependencies") (dependencies_refusals shared p.dependencies)
    ++ placed_under (codes "dev-dependencies") (dependencies_refusals shared p.dev_dependencies)
    ++ placed_under (codes "build-dependencies") (dependencies_refusals shared p.build_dependencies)

abbrev pub platforms_refusals : Entries Dependency → Entries Target → PlacedRefusals
platforms_refusals shared = entries_refusals (λ name. platform_refusals shared)

-- LINTS: they are inherited, and have a tool as well; and the workspace has none, or has a tool `workspace`
abbrev pub tools_refusals : Entries (Entries Lint) → PlacedRefusals
tools_refusals [] = []
tools_refusals (tool ∷ tools) = placed_here mixed_lints

abbrev pub shared_lints_refusals : Option (Entries (Entries Lint)) → PlacedRefusals
shared_lints_refusals None = placed_here (not_in_workspace (codes "lints"))
shared_lints_refusals (Some tools) =
    if none_named (codes "workspace" ∷ []) tools then [] else placed_here tool_named_workspace

abbrev pub lints_refusals_by :
    Option (Unit {0}) → Option (Entries (Entries Lint)) → MaybeInheritedLintsSet → PlacedRefusals
lints_refusals_by None shared own = []
lints_refusals_by (Some u) shared own = tools_refusals own.lints ++ shared_lints_refusals shared

abbrev pub lints_refusals :
    Option (Entries (Entries Lint)) → MaybeInheritedLintsSet → PlacedRefusals
lints_refusals shared own = lints_refusals_by own.workspace shared own

-- WHAT MAY BE ABSENT
abbrev pub some_refusals : {A : Type 0} → (A → PlacedRefusals) → Option A → PlacedRefusals
some_refusals refusals None = []
some_refusals refusals (Some x) = refusals x

-- EVERY REFUSAL OF A MANIFEST over a workspace, in the order in which they are reported
unfoldable pub all_refusals : Manifest → Workspace → PlacedRefusals
all_refusals m w =
    let in_map = some_refusals (dependencies_refusals (shared_dependencies w)) in
    placed_under (codes "package")
    (some_refusals (fields_refusals lendable w.«package») m.«package»)
    ++ placed_under (codes "dependencies") (in_map m.dependencies)
    ++ placed_under (codes "dev-dependencies") (in_map m.dev_dependencies)
    ++ placed_under (codes "build-dependencies") (in_map m.build_dependencies)
    ++ placed_under (codes "target")
    (some_refusals (platforms_refusals (shared_dependencies w)) m.target)
    ++ placed_under (codes "lints") (some_refusals (lints_refusals w.lints) m.lints)
