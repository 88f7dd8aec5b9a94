-- What the contracts of single steps cite. It is not needed to read what a manifest becomes.
use Rattle.manifest_schema.specs.Prelude.{Bor, Text, Global, BTreeMap, Entries, Dependency, Lint, Package, WorkspacePackage, Manifest}
use Rattle.std.specs.Prelude.{ℕ, zero, suc, List, [], map, Option, Some, option_map, unwrap_or, String}
use Rattle.manifest_value.specs.Entries.{entries_content}
use Rattle.manifest_parts.specs.Records.{platform_content, lint_content}
use Rattle.manifest_parts.specs.declared.dependency.Dependency.{Dependency as DependencyOfCode}
use Rattle.manifest_parts.specs.declared.lints.Lint.{Lint as LintOfCode}
use Rattle.cargo_manifest.specs.Tables.{dependencies_content, workspace_package_content}
use Rattle.manifest_inherit.specs.Fields.{Fields, no_more, ◌⨾◌}
use Rattle.manifest_inherit.specs.Resolved.{resolved_package, resolved_lints}
use Rattle.manifest_inherit.specs.Refused.{PlacedRefusals, field_refusals, fields_refusals}
use Rattle.manifest_inherit.specs.declared.resolution.Made.{Made}

-- the workspace's dependencies that can be inherited, where there is a map of them
abbrev pub shared_by_map : Option (BTreeMap (String Global) DependencyOfCode) → Entries Dependency
shared_by_map shared = unwrap_or (option_map dependencies_content shared) []

-- borrowed texts
abbrev pub borrowed_texts : List (Bor Text) → List Text
borrowed_texts ts = map (λ (t : Bor Text). t.now) ts

-- the lints of all tools
abbrev pub tools_content :
    BTreeMap (String Global) (BTreeMap (String Global) LintOfCode) → Entries (Entries Lint)
tools_content m = entries_content (λ l. entries_content lint_content l.entries) m.entries

-- how many fields there are
abbrev pub how_many : Fields → ℕ
how_many no_more = zero
how_many (f ⨾ fs) = suc (how_many fs)

-- the refusals of the field at this place
abbrev pub refusals_at : ℕ → Fields → Option WorkspacePackage → Package → PlacedRefusals
refusals_at zero (f ⨾ fs) w p = field_refusals f.key (f.own p) (f.shared w)
refusals_at (suc i) (f ⨾ fs) w p = refusals_at i fs w p
refusals_at _ _ w p = []

-- those of the fields from this place on
abbrev pub refusals_from : ℕ → Fields → Option WorkspacePackage → Package → PlacedRefusals
refusals_from zero fs w p = fields_refusals fs w p
refusals_from (suc i) (f ⨾ fs) w p = refusals_from i fs w p
refusals_from (suc i) no_more w p = []

-- a manifest with what is made in the place of what it inherits
abbrev pub with_made : Made → Manifest → Manifest
with_made made m = record m {
  «package» =
      option_map (resolved_package (Some (workspace_package_content made.fields))) m.«package»;
  dependencies = option_map dependencies_content made.dependencies;
  dev_dependencies = option_map dependencies_content made.dev_dependencies;
  build_dependencies = option_map dependencies_content made.build_dependencies;
  target = option_map (λ t. entries_content platform_content t.entries) made.target;
  lints = option_map (resolved_lints (option_map tools_content made.lints)) m.lints;
}
