-- What each query answers of a content; and which part of a value it is, where a query returns one.
use Rattle.manifest_schema.specs.Prelude.{nat_cmp, Ordering, Global, Text, Inheritable, inherited, local, simple, by_workspace, detailed, lint_level, lint_config, publish_flag, registries, strip_none, strip_debuginfo, strip_symbols}
use Rattle.std.specs.Prelude.{ℕ, ℤ, pos, Bool, true, false, not, ◌||◌, if◌then◌else◌, List, [], ◌∷◌, Option, Some, None, is_some, unwrap_or, String, Vec, codes}
use Rattle.std.specs.Bool.{beq}
use Rattle.std.specs.Option.{option_map_or}
use Rattle.manifest_schema.specs.Contents
use Rattle.manifest_parts.specs.Parts.{inh_content}
use Rattle.manifest_parts.specs.declared.inherited.MaybeInherited.{MaybeInherited}
use Rattle.manifest_parts.specs.declared.dependency.DependencyDetail.{DependencyDetail}
use Rattle.manifest_parts.specs.declared.dependency.Dependency.{Dependency}

-- DEPENDENCIES
-- a place other than crates.io is named, or a part of one
abbrev pub is_elsewhere : Contents.DependencyDetail → Bool
is_elsewhere d =
    is_some d.path || is_some d.registry || is_some d.registry_index || is_some d.git
    || is_some d.tag || is_some d.branch || is_some d.rev

-- more than a version is said
abbrev pub says_more : Contents.DependencyDetail → Bool
says_more d =
    is_elsewhere d || is_some d.features || is_some d.«optional» || is_some d.default_features
    || is_some d.«package»

-- a version that stands alone in its table is said without the table; any other dependency stays
abbrev pub simplify : Contents.Dependency → Contents.Dependency
simplify (simple v) = simple v
simplify (by_workspace i) = by_workspace i
simplify (detailed d) =
    if says_more d then detailed d else option_map_or simple d.version (detailed d)

-- the version requirement: any version, where none is said
abbrev pub req : Contents.Dependency → Text
req (simple v) = v
req (by_workspace i) = codes "*"
req (detailed d) = unwrap_or d.version (codes "*")

-- the features that are asked for
abbrev pub req_features : Contents.Dependency → List Text
req_features (simple v) = []
req_features (by_workspace i) = unwrap_or i.features []
req_features (detailed d) = unwrap_or d.features []

-- it is optional; by default it is not
abbrev pub is_optional : Contents.Dependency → Bool
is_optional (simple v) = false
is_optional (by_workspace i) = unwrap_or i.«optional» false
is_optional (detailed d) = unwrap_or d.«optional» false

-- the package, where the key is not its name
abbrev pub package_of : Contents.Dependency → Option Text
package_of (simple v) = None
package_of (by_workspace i) = None
package_of (detailed d) = d.«package»

-- the repository, where one is named
abbrev pub git_of : Contents.Dependency → Option Text
git_of (simple v) = None
git_of (by_workspace i) = None
git_of (detailed d) = d.git

-- it comes from crates.io: no other place is named; what is inherited from the workspace may come from anywhere
abbrev pub is_crates_io : Contents.Dependency → Bool
is_crates_io (simple v) = true
is_crates_io (by_workspace i) = false
is_crates_io (detailed d) = not (is_elsewhere d)

-- the detail that a dependency has in it
abbrev pub detail_part : Dependency → Option DependencyDetail
detail_part (Dependency.Simple v) = None
detail_part (Dependency.Inherited i) = None
detail_part (Dependency.Detailed d) = Some d

-- the texts of a list, none where there is no list
abbrev pub items_part : Option (Vec (String Global) Global) → List (String Global)
items_part None = []
items_part (Some v) = v.items

-- the texts of the features that a dependency has in it
abbrev pub features_part : Dependency → List (String Global)
features_part (Dependency.Simple v) = []
features_part (Dependency.Inherited i) = items_part i.features
features_part (Dependency.Detailed d) = items_part d.features

-- WHAT MAY BE INHERITED FROM THE WORKSPACE
-- the value of the code itself, or the mark that it is inherited from the workspace
abbrev pub as_inheritable : {T : Type 0} → MaybeInherited T → Inheritable T
as_inheritable = inh_content (λ x. x)

-- the value of the package's own
abbrev pub local_part : {T : Type 0} → Inheritable T → Option T
local_part inherited = None
local_part (local x) = Some x

-- PACKAGES: the version, 0.0.0 where none is said
abbrev pub version_of : Contents.Package → Inheritable Text
version_of p = unwrap_or p.version (local (codes "0.0.0"))

-- LINTS
-- the level
abbrev pub level_of : Contents.Lint → Contents.LintLevel
level_of (lint_level l) = l
level_of (lint_config c) = c.level

-- the priority, 0 of a level alone
abbrev pub priority_of : Contents.Lint → ℤ
priority_of (lint_level l) = pos 0
priority_of (lint_config c) = c.priority

-- the lints come from the workspace
abbrev pub is_inherited : Contents.MaybeInheritedLintsSet → Bool
is_inherited l = is_some l.workspace

-- WHERE A PACKAGE MAY BE PUBLISHED
-- it may be published anywhere at all
abbrev pub may_be_published : Contents.Publish → Bool
may_be_published (publish_flag b) = b
may_be_published (registries []) = false
may_be_published (registries (r ∷ rs)) = true

-- it may be published exactly where the boolean is true
abbrev pub eq_bool : Contents.Publish → Bool → Bool
eq_bool p b = beq (may_be_published p) b

-- STRIP: how much is stripped, from nothing to all symbols
abbrev pub strip_rank : Contents.StripSetting → ℕ
strip_rank strip_none = 0
strip_rank strip_debuginfo = 1
strip_rank strip_symbols = 2

-- by how much is stripped
abbrev pub strip_cmp : Contents.StripSetting → Contents.StripSetting → Ordering
strip_cmp a b = nat_cmp (strip_rank a) (strip_rank b)
