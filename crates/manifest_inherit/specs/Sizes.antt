-- HOW MUCH A MANIFEST INHERITS of a workspace's dependencies: the bytes of their texts, at each place that inherits
-- one.
use Rattle.manifest_schema.specs.Prelude.{Text, Entries, DependencyDetail, Dependency, simple, by_workspace, detailed, Target, Workspace, Manifest}
use Rattle.std.specs.Prelude.{◌≡◌, ℕ, ◌+◌, ◌<◌, nat_le, Bool, List, [], ◌∷◌, length, Option, Some, None}
use Rattle.manifest_inherit.specs.Resolved.{workspace_dependency, shared_dependencies}

-- a text, with the two bytes that stand around it at least, in whatever form it is written
abbrev pub text_size : Text → ℕ
text_size s = length s + 2

abbrev pub optional_size : Option Text → ℕ
optional_size None = 0
optional_size (Some s) = text_size s

abbrev pub texts_size : List Text → ℕ
texts_size [] = 0
texts_size (s ∷ ss) = text_size s + texts_size ss

abbrev pub optional_texts_size : Option (List Text) → ℕ
optional_texts_size None = 0
optional_texts_size (Some ss) = texts_size ss

-- WHAT A WORKSPACE'S DEPENDENCY gives: its texts
abbrev pub detail_size : DependencyDetail → ℕ
detail_size d =
    optional_size d.version + (optional_size d.registry + (optional_size d.registry_index
    + (optional_size d.path + (optional_size d.git + (optional_size d.branch
    + (optional_size d.tag + (optional_size d.rev + (optional_texts_size d.features
    + optional_size d.«package»))))))))

abbrev pub given_size : Option Dependency → ℕ
given_size (Some (simple v)) = text_size v
given_size (Some (detailed d)) = detail_size d
given_size _ = 0

-- WHAT IS INHERITED by a dependency of this name
abbrev pub dependency_size : Entries Dependency → Text → Dependency → ℕ
dependency_size shared name (by_workspace own) = given_size (workspace_dependency shared name)
dependency_size shared name d = 0

-- by each value of a map, under its name
abbrev pub entries_size : {A : Type 0} → (Text → A → ℕ) → Entries A → ℕ
entries_size size [] = 0
entries_size size (e ∷ es) = size e.0 e.1 + entries_size size es

abbrev pub optional_entries_size : {A : Type 0} → (Text → A → ℕ) → Option (Entries A) → ℕ
optional_entries_size size None = 0
optional_entries_size size (Some es) = entries_size size es

-- by the three maps of a platform
abbrev pub platform_size : Entries Dependency → Target → ℕ
platform_size shared p =
    entries_size (dependency_size shared) p.dependencies
    + (entries_size (dependency_size shared) p.dev_dependencies
    + entries_size (dependency_size shared) p.build_dependencies)

-- BY A MANIFEST
abbrev pub inherited_size_of : Entries Dependency → Manifest → ℕ
inherited_size_of shared m =
    optional_entries_size (dependency_size shared) m.dependencies
    + (optional_entries_size (dependency_size shared) m.dev_dependencies
    + (optional_entries_size (dependency_size shared) m.build_dependencies
    + optional_entries_size (λ name. platform_size shared) m.target))

unfoldable pub inherited_size : Manifest → Workspace → ℕ
inherited_size m w = inherited_size_of (shared_dependencies w) m

abbrev pub inherits_at_most : Manifest → Workspace → ℕ → Bool
inherits_at_most m w most = nat_le (inherited_size m w) most

-- in the code: so much of a number is left after this size is taken from it, or it is less than the size
abbrev pub Leaves : ℕ → ℕ → Option ℕ → Type 0
Leaves most size None = most < size
Leaves most size (Some left) = left + size ≡ most
