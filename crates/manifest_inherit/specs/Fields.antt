-- The fields of a package that may be inherited from a workspace.
use Rattle.manifest_schema.specs.Prelude.{Text, Inheritable, Package, WorkspacePackage}
use Rattle.std.specs.Prelude.{Option, codes}
use Rattle.std.specs.Option.{option_and_then}

-- a field: its key, its content in a package and in a workspace's `package`, and the package with other content of it
pub record Field : Type 1 where
  pub content : Type 0
  pub key : Text
  pub own : Package → Option (Inheritable content)
  pub shared : Option WorkspacePackage → Option content
  pub with_content : Package → Option (Inheritable content) → Package

infixr 40 ◌⨾◌
pub data Fields : Type 1 where
  no_more : Fields
  ◌⨾◌ : Field → Fields → Fields

abbrev pub field : {A : Type 0} → Text → (Package → Option (Inheritable A))
    → (WorkspacePackage → Option A) → (Package → Option (Inheritable A) → Package) → Field
field {A = A} key own shared with_content = record {
  content = A;
  key = key;
  own = own;
  shared = option_and_then shared;
  with_content = with_content;
}

-- THE SIXTEEN FIELDS
unfoldable pub lendable : Fields
lendable =
    field (codes "edition") (λ p. p.edition) (λ w. w.edition) (λ p x. record p { edition = x })
    ⨾ field (codes "version") (λ p. p.version) (λ w. w.version) (λ p x. record p { version = x })
    ⨾ field (codes "authors") (λ p. p.authors) (λ w. w.authors) (λ p x. record p { authors = x })
    ⨾ field (codes "description") (λ p. p.description) (λ w. w.description)
    (λ p x. record p { description = x })
    ⨾ field (codes "homepage") (λ p. p.homepage) (λ w. w.homepage)
    (λ p x. record p { homepage = x })
    ⨾ field (codes "documentation") (λ p. p.documentation) (λ w. w.documentation)
    (λ p x. record p { documentation = x })
    ⨾ field (codes "readme") (λ p. p.readme) (λ w. w.readme) (λ p x. record p { readme = x })
    ⨾ field (codes "keywords") (λ p. p.keywords) (λ w. w.keywords)
    (λ p x. record p { keywords = x })
    ⨾ field (codes "categories") (λ p. p.categories) (λ w. w.categories)
    (λ p x. record p { categories = x })
    ⨾ field (codes "license") (λ p. p.license) (λ w. w.license) (λ p x. record p { license = x })
    ⨾ field (codes "license-file") (λ p. p.license_file) (λ w. w.license_file)
    (λ p x. record p { license_file = x })
    ⨾ field (codes "repository") (λ p. p.repository) (λ w. w.repository)
    (λ p x. record p { repository = x })
    ⨾ field (codes "rust-version") (λ p. p.rust_version) (λ w. w.rust_version)
    (λ p x. record p { rust_version = x })
    ⨾ field (codes "exclude") (λ p. p.exclude) (λ w. w.exclude) (λ p x. record p { exclude = x })
    ⨾ field (codes "include") (λ p. p.include) (λ w. w.include) (λ p x. record p { include = x })
    ⨾ field (codes "publish") (λ p. p.publish) (λ w. w.publish) (λ p x. record p { publish = x })
    ⨾ no_more
