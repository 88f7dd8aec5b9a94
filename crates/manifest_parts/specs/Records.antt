-- What the records of the code hold.
use Rattle.std.specs.Prelude.{map, option_map, pos, string_bytes}
use Rattle.toml.specs.View.{view}
use Rattle.manifest_schema.specs.Contents
use Rattle.manifest_value.specs.Entries.{entries_content}
use Rattle.manifest_parts.specs.Parts.{edition_content, level_content, status_content, strip_content}
use Rattle.manifest_parts.specs.declared.dependency.InheritedDependencyDetail.{InheritedDependencyDetail}
use Rattle.manifest_parts.specs.declared.dependency.DependencyDetail.{DependencyDetail}
use Rattle.manifest_parts.specs.declared.dependency.Dependency.{Dependency}
use Rattle.manifest_parts.specs.declared.product.Product.{Product}
use Rattle.manifest_parts.specs.declared.badges.Badge.{Badge}
use Rattle.manifest_parts.specs.declared.badges.Maintenance.{Maintenance}
use Rattle.manifest_parts.specs.declared.badges.Badges.{Badges}
use Rattle.manifest_parts.specs.declared.lints.LintConfig.{LintConfig}
use Rattle.manifest_parts.specs.declared.lints.Lint.{Lint}
use Rattle.manifest_parts.specs.declared.lints.MaybeInheritedLintsSet.{MaybeInheritedLintsSet}
use Rattle.manifest_parts.specs.declared.profile.Profile.{Profile}
use Rattle.manifest_parts.specs.declared.target.Target.{Target}

-- DEPENDENCIES
abbrev pub inherited_content : InheritedDependencyDetail → Contents.InheritedDependencyDetail
inherited_content d = record {
  -- (made by scripts/keys --write)
  features = option_map (λ v. map string_bytes v.items) d.features;
  «optional» = option_map (λ b. b) d.«optional»;
  default_features = option_map (λ b. b) d.default_features;
}

abbrev pub detail_content : DependencyDetail → Contents.DependencyDetail
detail_content d = record {
  -- (made by scripts/keys --write)
  version = option_map string_bytes d.version;
  registry = option_map string_bytes d.registry;
  registry_index = option_map string_bytes d.registry_index;
  path = option_map string_bytes d.path;
  git = option_map string_bytes d.git;
  branch = option_map string_bytes d.branch;
  tag = option_map string_bytes d.tag;
  rev = option_map string_bytes d.rev;
  features = option_map (λ v. map string_bytes v.items) d.features;
  «optional» = option_map (λ b. b) d.«optional»;
  default_features = option_map (λ b. b) d.default_features;
  «package» = option_map string_bytes d.package;
}

abbrev pub dependency_content : Dependency → Contents.Dependency
dependency_content (Dependency.Simple s) = Contents.simple (string_bytes s)
dependency_content (Dependency.Inherited d) = Contents.by_workspace (inherited_content d)
dependency_content (Dependency.Detailed d) = Contents.detailed (detail_content d)

-- PRODUCTS
abbrev pub product_content : Product → Contents.Product
product_content p = record {
  -- (made by scripts/keys --write)
  path = option_map string_bytes p.path;
  name = option_map string_bytes p.name;
  test = p.test;
  doctest = p.doctest;
  bench = p.bench;
  doc = p.doc;
  plugin = p.plugin;
  proc_macro = p.proc_macro;
  harness = p.harness;
  edition = option_map edition_content p.edition;
  required_features = map string_bytes p.required_features.items;
  crate_type = option_map (λ v. map string_bytes v.items) p.crate_type;
}

-- BADGES
abbrev pub badge_content : Badge → Contents.Badge
badge_content b = record {
  -- (made by scripts/keys --write)
  repository = string_bytes b.repository;
  branch = string_bytes b.branch;
  service = option_map string_bytes b.service;
  id = option_map string_bytes b.id;
  project_name = option_map string_bytes b.project_name;
}

abbrev pub maintenance_content : Maintenance → Contents.Maintenance
maintenance_content m = record {
  -- (made by scripts/keys --write)
  status = status_content m.status;
}

abbrev pub badges_content : Badges → Contents.Badges
badges_content b = record {
  -- (made by scripts/keys --write)
  appveyor = option_map badge_content b.appveyor;
  circle_ci = option_map badge_content b.circle_ci;
  gitlab = option_map badge_content b.gitlab;
  travis_ci = option_map badge_content b.travis_ci;
  codecov = option_map badge_content b.codecov;
  coveralls = option_map badge_content b.coveralls;
  is_it_maintained_issue_resolution = option_map badge_content b.is_it_maintained_issue_resolution;
  is_it_maintained_open_issues = option_map badge_content b.is_it_maintained_open_issues;
  maintenance = maintenance_content b.maintenance;
}

-- LINTS
abbrev pub lint_config_content : LintConfig → Contents.LintConfig
lint_config_content l = record {
  -- (made by scripts/keys --write)
  level = level_content l.level;
  priority = l.priority;
}

abbrev pub lint_content : Lint → Contents.Lint
lint_content (Lint.Level l) = Contents.lint_level (level_content l)
lint_content (Lint.Config c) = Contents.lint_config (lint_config_content c)

abbrev pub lints_content : MaybeInheritedLintsSet → Contents.MaybeInheritedLintsSet
lints_content l = record {
  -- (made by scripts/keys --write)
  workspace = option_map (λ t. tt) l.workspace;
  lints = entries_content (λ m. entries_content lint_content m.entries) l.lints.entries;
}

-- PROFILES
abbrev pub profile_content : Profile → Contents.Profile
profile_content p = record {
  -- (made by scripts/keys --write)
  opt_level = option_map view p.opt_level;
  debug = option_map view p.debug;
  rpath = option_map (λ b. b) p.rpath;
  inherits = option_map string_bytes p.inherits;
  lto = option_map view p.lto;
  debug_assertions = option_map (λ b. b) p.debug_assertions;
  codegen_units = option_map pos p.codegen_units;
  panic = option_map string_bytes p.panic;
  incremental = option_map (λ b. b) p.incremental;
  overflow_checks = option_map (λ b. b) p.overflow_checks;
  strip = option_map strip_content p.strip;
  «package» = entries_content view p.package.entries;
  split_debuginfo = option_map string_bytes p.split_debuginfo;
  build_override = option_map view p.build_override;
}

-- PLATFORMS
abbrev pub platform_content : Target → Contents.Target
platform_content t = record {
  -- (made by scripts/keys --write)
  dependencies = entries_content dependency_content t.dependencies.entries;
  dev_dependencies = entries_content dependency_content t.dev_dependencies.entries;
  build_dependencies = entries_content dependency_content t.build_dependencies.entries;
}
