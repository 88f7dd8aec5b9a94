-- What a manifest of the code holds; metadata is seen by a function to its tree.
use Rattle.manifest_schema.specs.Prelude.{Data, view, Value, Kind}
use Rattle.std.specs.Prelude.{map, option_map, string_bytes}
use Rattle.manifest_schema.specs.Contents
use Rattle.manifest_value.specs.Entries.{entries_content}
use Rattle.manifest_value.specs.Reading.{written_as}
use Rattle.manifest_parts.specs.Records.{product_content, badges_content, lints_content, platform_content}
use Rattle.cargo_manifest.specs.Tables.{dependencies_content, package_content, workspace_content, profiles_content}
use Rattle.cargo_manifest.specs.declared.manifest.Manifest.{Manifest}

abbrev pub manifest_content :
    {P W : Type 0} → (P → Data) → (W → Data) → Manifest P W → Contents.Manifest
manifest_content package_tree workspace_tree m = record {
  -- (made by scripts/keys --write)
  «package» = option_map (package_content package_tree) m.package;
  cargo_features = option_map (λ v. map string_bytes v.items) m.cargo_features;
  workspace = option_map (workspace_content workspace_tree) m.workspace;
  dependencies = option_map dependencies_content m.dependencies;
  dev_dependencies = option_map dependencies_content m.dev_dependencies;
  build_dependencies = option_map dependencies_content m.build_dependencies;
  target = option_map (λ m. entries_content platform_content m.entries) m.target;
  features = option_map (λ m. entries_content (λ v. map string_bytes v.items) m.entries) m.features;
  bin = map product_content m.bin.items;
  bench = map product_content m.bench.items;
  test = map product_content m.test.items;
  example = map product_content m.example.items;
  patch = option_map (λ m. entries_content dependencies_content m.entries) m.patch;
  lib = option_map product_content m.lib;
  profile = option_map profiles_content m.profile;
  badges = option_map badges_content m.badges;
  lints = option_map lints_content m.lints;
}

-- the same, whose metadata has the contents p and w of these kinds
abbrev pub manifest_of :
    {P W A B : Type 0} → Kind A → Kind B → (P → A) → (W → B) → Manifest P W → Contents.Manifest
manifest_of K L p w m = manifest_content (written_as K p) (written_as L w) m

-- the same, where the workspace's metadata is kept as it stands
abbrev pub manifest_raw : {P A : Type 0} → Kind A → (P → A) → Manifest P Value → Contents.Manifest
manifest_raw K p m = manifest_content (written_as K p) view m
