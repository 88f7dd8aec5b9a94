-- What a package, a workspace and profiles of the code hold; metadata is seen by a function to its tree.
use Rattle.manifest_schema.specs.Prelude.{Global, BTreeMap, Data, Kind, Entries, tree_of, form, package_rows}
use Rattle.std.specs.Prelude.{map, option_map, String, string_bytes}
use Rattle.manifest_schema.specs.Contents
use Rattle.manifest_value.specs.Entries.{entries_content}
use Rattle.manifest_value.specs.Reading.{written_as}
use Rattle.manifest_parts.specs.Parts.{edition_content, resolver_content, text_or_flag_content, publish_content, inh_content}
use Rattle.manifest_parts.specs.Records.{dependency_content, lint_content, profile_content}
use Rattle.manifest_parts.specs.declared.dependency.Dependency.{Dependency}
use Rattle.cargo_manifest.specs.declared.package.Package.{Package}
use Rattle.cargo_manifest.specs.declared.workspace.WorkspacePackage.{WorkspacePackage}
use Rattle.cargo_manifest.specs.declared.workspace.Workspace.{Workspace}
use Rattle.cargo_manifest.specs.declared.profiles.Profiles.{Profiles}

abbrev pub dependencies_content : BTreeMap (String Global) Dependency → Entries Contents.Dependency
dependencies_content m = entries_content dependency_content m.entries

abbrev pub package_content : {M : Type 0} → (M → Data) → Package M → Contents.Package
package_content tree p = record {
  -- (made by scripts/keys --write)
  name = string_bytes p.name;
  edition = option_map (inh_content edition_content) p.edition;
  version = option_map (inh_content string_bytes) p.version;
  build = option_map text_or_flag_content p.build;
  workspace = option_map string_bytes p.workspace;
  authors = option_map (inh_content (λ v. map string_bytes v.items)) p.authors;
  links = option_map string_bytes p.links;
  description = option_map (inh_content string_bytes) p.description;
  homepage = option_map (inh_content string_bytes) p.homepage;
  documentation = option_map (inh_content string_bytes) p.documentation;
  readme = option_map (inh_content text_or_flag_content) p.readme;
  keywords = option_map (inh_content (λ v. map string_bytes v.items)) p.keywords;
  categories = option_map (inh_content (λ v. map string_bytes v.items)) p.categories;
  license = option_map (inh_content string_bytes) p.license;
  license_file = option_map (inh_content string_bytes) p.license_file;
  repository = option_map (inh_content string_bytes) p.repository;
  metadata = option_map tree p.metadata;
  rust_version = option_map (inh_content string_bytes) p.rust_version;
  exclude = option_map (inh_content (λ v. map string_bytes v.items)) p.exclude;
  include = option_map (inh_content (λ v. map string_bytes v.items)) p.include;
  default_run = option_map string_bytes p.default_run;
  autolib = option_map (λ b. b) p.autolib;
  autobins = option_map (λ b. b) p.autobins;
  autoexamples = option_map (λ b. b) p.autoexamples;
  autotests = option_map (λ b. b) p.autotests;
  autobenches = option_map (λ b. b) p.autobenches;
  publish = option_map (inh_content publish_content) p.publish;
  resolver = option_map resolver_content p.resolver;
}

-- the same, whose metadata has the contents m of this kind
abbrev pub package_of : {M A : Type 0} → Kind A → (M → A) → Package M → Contents.Package
package_of K m p = package_content (written_as K m) p

-- the form of a package whose metadata has this kind
abbrev pub package_form : {A : Type 0} → Kind A → Kind Contents.Package
package_form K = form (package_rows (tree_of K))

abbrev pub workspace_package_content : WorkspacePackage → Contents.WorkspacePackage
workspace_package_content p = record {
  -- (made by scripts/keys --write)
  edition = option_map edition_content p.edition;
  version = option_map string_bytes p.version;
  authors = option_map (λ v. map string_bytes v.items) p.authors;
  description = option_map string_bytes p.description;
  homepage = option_map string_bytes p.homepage;
  documentation = option_map string_bytes p.documentation;
  readme = option_map text_or_flag_content p.readme;
  keywords = option_map (λ v. map string_bytes v.items) p.keywords;
  categories = option_map (λ v. map string_bytes v.items) p.categories;
  license = option_map string_bytes p.license;
  license_file = option_map string_bytes p.license_file;
  repository = option_map string_bytes p.repository;
  rust_version = option_map string_bytes p.rust_version;
  exclude = option_map (λ v. map string_bytes v.items) p.exclude;
  include = option_map (λ v. map string_bytes v.items) p.include;
  publish = option_map publish_content p.publish;
}

abbrev pub workspace_content : {M : Type 0} → (M → Data) → Workspace M → Contents.Workspace
workspace_content tree w = record {
  -- (made by scripts/keys --write)
  members = map string_bytes w.members.items;
  default_members = option_map (λ v. map string_bytes v.items) w.default_members;
  exclude = option_map (λ v. map string_bytes v.items) w.exclude;
  resolver = option_map resolver_content w.resolver;
  dependencies = option_map dependencies_content w.dependencies;
  «package» = option_map workspace_package_content w.package;
  metadata = option_map tree w.metadata;
  lints =
      option_map (λ m. entries_content (λ m. entries_content lint_content m.entries) m.entries)
      w.lints;
}

-- the same, whose metadata has the contents m of this kind
abbrev pub workspace_of : {M A : Type 0} → Kind A → (M → A) → Workspace M → Contents.Workspace
workspace_of K m w = workspace_content (written_as K m) w

abbrev pub profiles_content : Profiles → Contents.Profiles
profiles_content p = record {
  -- (made by scripts/keys --write)
  release = option_map profile_content p.release;
  dev = option_map profile_content p.dev;
  test = option_map profile_content p.test;
  bench = option_map profile_content p.bench;
  doc = option_map profile_content p.doc;
  custom = entries_content profile_content p.custom.entries;
}
