-- What inherits nothing.
use Rattle.manifest_schema.specs.Prelude.{IfSome, Inheritable, inherited, Entries, Dependency, by_workspace, MaybeInheritedLintsSet, Target, Package, Manifest, AllValues}
use Rattle.std.specs.Prelude.{◌≡◌, Option, Some, None}
use Rattle.manifest_inherit.specs.Fields.{Fields, no_more, ◌⨾◌, lendable}

-- a field is not inherited
abbrev pub IsOwn : {A : Type 0} → Option (Inheritable A) → Type 0
IsOwn (Some inherited) = ⊥
IsOwn own = Unit {0}

-- none of the fields is
abbrev pub AreOwn : Fields → Package → Type 0
AreOwn no_more p = Unit {0}
AreOwn (f ⨾ fs) p = IsOwn (f.own p) × AreOwn fs p

-- a dependency is not inherited
abbrev pub IsOwnDependency : Dependency → Type 0
IsOwnDependency (by_workspace own) = ⊥
IsOwnDependency d = Unit {0}

abbrev pub AreOwnDependencies : Entries Dependency → Type 0
AreOwnDependencies = AllValues IsOwnDependency

-- no dependency of a platform is inherited
abbrev pub IsOwnPlatform : Target → Type 0
IsOwnPlatform p =
    AreOwnDependencies p.dependencies
    × AreOwnDependencies p.dev_dependencies
    × AreOwnDependencies p.build_dependencies

abbrev pub AreOwnPlatforms : Entries Target → Type 0
AreOwnPlatforms = AllValues IsOwnPlatform

-- lints are not inherited
abbrev pub AreOwnLints : MaybeInheritedLintsSet → Type 0
AreOwnLints l = l.workspace ≡ None

-- NOTHING IS INHERITED FROM A WORKSPACE; `patch` and the manifest's own `workspace` are not looked at
pub record InheritsNothing (m : Manifest) : Type 0 where
  pub fields : IfSome m.«package» (AreOwn lendable)
  pub dependencies : IfSome m.dependencies AreOwnDependencies
  pub dev_dependencies : IfSome m.dev_dependencies AreOwnDependencies
  pub build_dependencies : IfSome m.build_dependencies AreOwnDependencies
  pub platforms : IfSome m.target AreOwnPlatforms
  pub lints : IfSome m.lints AreOwnLints
