-- What it comes down to that a package, a workspace or a manifest is well-formed: all else in them always is.
use Rattle.manifest_schema.specs.Prelude.{Data, Kind, map_of, good_some, form, Package, Workspace, Manifest, lint, profiles_rows, lints_rows, package_rows, workspace_rows, well_formed}
use Rattle.std.specs.Prelude.{◌↔◌}

-- a package is well-formed exactly where its metadata is; K is the metadata's kind
abbrev pub PackageByMetadata : Kind Data → Type 0
PackageByMetadata K = (p : Package) → (form (package_rows K)).good p ↔ good_some K p.metadata

-- a workspace is exactly where its metadata and its lints are
abbrev pub WorkspaceByParts : Kind Data → Type 0
WorkspaceByParts K =
    (w : Workspace) → (form (workspace_rows K)).good w
    ↔ (good_some K w.metadata × good_some (map_of (map_of lint)) w.lints)

-- a manifest is exactly where its package, its workspace, its profiles and its lints are
abbrev pub ManifestByParts : Kind Data → Kind Data → Type 0
ManifestByParts K W =
    (m : Manifest) → well_formed K W m
    ↔ (good_some (form (package_rows K)) m.«package»
    × good_some (form (workspace_rows W)) m.workspace
    × good_some (form profiles_rows) m.profile × good_some (form lints_rows) m.lints)
