-- Where no inherited dependency chooses its default features, what is written is what the former schema wrote.
use Rattle.manifest_schema.specs.Prelude.{IfSome, Data, table, member, put_some, Kind, Entries, written_entries, map_of, written_some, form, IsSound, InheritedDependencyDetail, Dependency, simple, by_workspace, detailed, inherited_rows, dependency, platform_rows, workspace_rows, manifest_rows, reads_manifest, written_manifest, former_written, AllValues, ManifestLeavesDefaults, OldWrittenIsRead}
use Rattle.std.proofs.Common.{◌≡◌, [], ◌∷◌, Option, Some, None, refl, ap, ap₂, subst}
use Rattle.manifest_schema.specs.Former.{former_inherited_rows, former_dependency, former_platform_rows, former_workspace_rows, former_manifest_rows, LeavesDefaults, PlatformLeavesDefaults, WorkspaceLeavesDefaults}
use Rattle.manifest_schema.proofs.Meaning.MeaningLaws.{written_is_read}

-- WHERE P HOLDS of a content, K writes of it what L writes
record WritesAs {A : Type 0} (P : A → Type 0) (K L : Kind A) : Type 0 where
  pub same : (x : A) → P x → K.written x ≡ L.written x

module _ {A : Type 0} {P : A → Type 0} {K L : Kind A} (k : WritesAs P K L) where
  some_same : (o : Option A) → IfSome o P → written_some K o ≡ written_some L o
  some_same None p = refl
  some_same (Some x) p = ap Some (k.same x p)

  entries_same : (es : Entries A) → AllValues P es → written_entries K es ≡ written_entries L es
  entries_same [] p = refl
  entries_same (e ∷ es) p = ap₂ (member e.0) (k.same e.1 p.0) (entries_same es p.1)

  map_same : WritesAs (AllValues P) (map_of K) (map_of L)
  map_same = record { same = λ es p. ap table (entries_same es p) }

-- DEPENDENCIES
inherited_same : (i : InheritedDependencyDetail) → i.default_features ≡ None → (form inherited_rows).written
    i ≡ (form former_inherited_rows).written i
unfolding inherited_rows put_some
inherited_same i h = rw h refl

each_same : (d : Dependency) → LeavesDefaults d → dependency.written d ≡ former_dependency.written d
each_same (simple s) p = refl
each_same (by_workspace i) p = inherited_same i p
each_same (detailed d) p = refl

dependencies_same : WritesAs (AllValues LeavesDefaults) (map_of dependency) (map_of former_dependency)
dependencies_same = map_same (record { same = each_same })

platform_same : WritesAs PlatformLeavesDefaults (form platform_rows) (form former_platform_rows)
unfolding platform_rows
platform_same = record {
  same = λ x p. rw (
    dependencies_same.same x.dependencies p.0,
    dependencies_same.same x.dev_dependencies p.1,
    dependencies_same.same x.build_dependencies p.2,
  ) refl;
}

-- WORKSPACE AND MANIFEST
workspace_same : (W : Kind Data) → WritesAs WorkspaceLeavesDefaults (form (workspace_rows W))
    (form (former_workspace_rows W))
unfolding workspace_rows
workspace_same W = record { same = λ x p. rw (some_same dependencies_same x.dependencies p) refl }

manifest_same : (K W : Kind Data) → WritesAs ManifestLeavesDefaults (form (manifest_rows K W))
    (form (former_manifest_rows K W))
unfolding manifest_rows
manifest_same K W = record {
  same = λ m p. rw (
    some_same (workspace_same W) m.workspace p.workspace,
    some_same dependencies_same m.dependencies p.dependencies,
    some_same dependencies_same m.dev_dependencies p.dev_dependencies,
    some_same dependencies_same m.build_dependencies p.build_dependencies,
    some_same (map_same platform_same) m.target p.target,
    some_same (map_same dependencies_same) m.patch p.patch,
  ) refl;
}

pub old_written_is_read : {K W : Kind Data} → IsSound K → IsSound W → OldWrittenIsRead K W
old_written_is_read {K = K} {W = W} k w m p =
    let same : written_manifest K W m ≡ former_written K W m = (manifest_same K W).same m p in
    (same, λ g. subst (λ d. reads_manifest K W d m) same (written_is_read k w m g))
