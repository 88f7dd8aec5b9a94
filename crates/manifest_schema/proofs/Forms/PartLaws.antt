-- The forms of the parts of a manifest satisfy the laws.
use Rattle.manifest_schema.specs.Prelude.{Data, string, boolean, table, Members, Path, get_member, Text, put_some, text, is_text, inherits, form, gets, good_rows, written_rows, left_out, unused_of, IsSound, AreSound, IsBuilt, InheritedDependencyDetail, DependencyDetail, Dependency, simple, by_workspace, detailed, forbid, deny, warn, allow, lint_level, lint_config, no_status, level, inherited_rows, detailed_rows, dependency_table, dependency, lint_rows, lint, product_rows, badge_rows, maintenance_rows, badges_rows, profile_rows, profiles_rows, lints_rows, platform_rows}
use Rattle.std.proofs.Common.{◌≡◌, Bool, true, false, ◌⊎◌, inl, inr, [], ◌∷◌, Some, None, List, codes, refl, ap, ◌∙◌}
use Rattle.manifest_schema.specs.Kinds.{is_truth, split_findings}
use Rattle.manifest_schema.specs.PartForms.{dependency_side, lint_side}
use Rattle.manifest_schema.proofs.Values.KindLaws.{text_sound, IsSplit, split_sound, inherits-left}
use Rattle.manifest_schema.proofs.Tables.TableLaws.{get-put_same}
use Rattle.manifest_schema.proofs.Forms.Built.{turned, built}
use Rattle.manifest_schema.proofs.Forms.RowsWritten.{written_none}
use Rattle.manifest_schema.proofs.Forms.FormLaws.{key_stays, form_sound}
use Rattle.manifest_schema.proofs.Values.ChoiceLaws.{level_sound}
use Rattle.manifest_schema.proofs.Forms.RowLaws.{row_laws}

-- INHERITED DEPENDENCY
inherited_rows_sound : AreSound inherited_rows
unfolding inherited_rows
inherited_rows_sound = search row_laws

pub inherited_sound : IsSound (form inherited_rows)
unfolding inherited_rows
inherited_sound = form_sound inherited_rows inherited_rows_sound (record {
  build = λ (workspace, (features, («optional», (default_features, end)))). record {
    features = features;
    «optional» =
        «optional»;
    default_features = default_features;
  };
  all = λ x. refl;
  each = λ t. refl;
}) refl

-- DETAILED DEPENDENCY
pub detailed_built : IsBuilt detailed_rows
unfolding detailed_rows
detailed_built = built detailed_rows (λ F m. hlevel turned) (λ x. refl) (λ t. refl)

pub detailed_sound : IsSound (form detailed_rows)
unfolding detailed_rows
detailed_sound =
    form_sound detailed_rows (search row_laws) detailed_built refl

-- DEPENDENCY: an inherited one is written with `workspace = true`, a detailed one without
workspace_written : (x : InheritedDependencyDetail) → get_member (codes "workspace") (written_rows inherited_rows
    (gets inherited_rows x)) ≡ Some (boolean true)
unfolding inherited_rows put_some
workspace_written x = search get-put_same

no_workspace_written : (x : DependencyDetail) → good_rows detailed_rows x → get_member (codes "workspace")
    (written_rows detailed_rows (gets detailed_rows x)) ≡ None
unfolding detailed_rows
no_workspace_written x g = written_none (codes "workspace" ∷ []) detailed_rows (gets detailed_rows x)
    (codes "workspace") refl refl g

-- an inherited dependency keeps its `workspace`, and a detailed one gets none
table_keeps : (b : Bool) (ms : Members) → inherits (table ms) ≡ b
    → inherits (left_out (unused_of (split_findings (form inherited_rows).findings (form detailed_rows).findings b
    (table ms))) (table ms)) ≡ b
unfolding inherited_rows
table_keeps true ms e =
    inherits-left _ ms (inl (key_stays inherited_rows inherited_rows_sound ms (codes "workspace") refl)) ∙ e
table_keeps false ms e = inherits-left _ ms (inr e) ∙ e

dependency_table_split : IsSplit inherits (form inherited_rows) (form detailed_rows) (λ x. x)
dependency_table_split = record {
  from = λ y. y;
  there = λ y. refl;
  back = λ x. refl;
  first = λ x g. ap is_truth (workspace_written x);
  second = λ x g. ap is_truth (no_workspace_written x g);
  keeps = elim [ table ms ↦ table_keeps (inherits (table ms)) ms refl | _ ↦ refl ];
}

text_left : (ps : List Path) (d : Data) → is_text (left_out ps d) ≡ is_text d
text_left ps (string s) = refl
text_left ps _ = refl

abbrev dependency_from : Text ⊎ (InheritedDependencyDetail ⊎ DependencyDetail) → Dependency
dependency_from (inl s) = simple s
dependency_from (inr (inl i)) = by_workspace i
dependency_from (inr (inr d)) = detailed d

side_of_dependency : (y : Text ⊎ (InheritedDependencyDetail ⊎ DependencyDetail))
    → dependency_side (dependency_from y) ≡ y
side_of_dependency (inl s) = refl
side_of_dependency (inr (inl i)) = refl
side_of_dependency (inr (inr d)) = refl

dependency_split : IsSplit is_text text dependency_table dependency_side
dependency_split = record {
  from = dependency_from;
  there = side_of_dependency;
  back = elim [ simple s ↦ refl | by_workspace i ↦ refl | detailed d ↦ refl ];
  first = λ x g. refl;
  second = elim [ inl i ↦ λ g. refl | inr d ↦ λ g. refl ];
  keeps = λ d. text_left _ d;
}

pub dependency_sound : IsSound dependency
dependency_sound =
    split_sound text_sound (split_sound inherited_sound detailed_sound dependency_table_split) dependency_split

-- LINT
pub lint_config_sound : IsSound (form lint_rows)
unfolding lint_rows
lint_config_sound =
    form_sound lint_rows (search row_laws) (built lint_rows (λ F m. hlevel turned) (λ x. refl) (λ t. refl)) refl

lint_split : IsSplit is_text level (form lint_rows) lint_side
lint_split = record {
  from = elim [ inl l ↦ lint_level l | inr c ↦ lint_config c ];
  there = elim [ inl l ↦ refl | inr c ↦ refl ];
  back = elim [ lint_level l ↦ refl | lint_config c ↦ refl ];
  first = elim [ forbid ↦ λ g. refl | deny ↦ λ g. refl | warn ↦ λ g. refl | allow ↦ λ g. refl ];
  second = λ x g. refl;
  keeps = λ d. text_left _ d;
}

pub lint_sound : IsSound lint
lint_sound = split_sound level_sound lint_config_sound lint_split

-- PRODUCT
pub product_sound : IsSound (form product_rows)
unfolding product_rows
product_sound =
    form_sound product_rows (search row_laws) (built product_rows (λ F m. hlevel turned) (λ x. refl) (λ t. refl)) refl

-- BADGES
pub badge_sound : IsSound (form badge_rows)
unfolding badge_rows
badge_sound =
    form_sound badge_rows (search row_laws) (built badge_rows (λ F m. hlevel turned) (λ x. refl) (λ t. refl)) refl

pub maintenance_sound : IsSound (form maintenance_rows)
unfolding maintenance_rows
maintenance_sound =
    form_sound maintenance_rows (search row_laws)
    (built maintenance_rows (λ F m. hlevel turned) (λ x. refl) (λ t. refl)) refl

maintenance_good : (form maintenance_rows).good (record { status = no_status })
unfolding maintenance_rows
maintenance_good = (tt, tt)

pub badges_built : IsBuilt badges_rows
unfolding badges_rows
badges_built = built badges_rows (λ F m. hlevel turned) (λ x. refl) (λ t. refl)

pub badges_sound : IsSound (form badges_rows)
unfolding badges_rows
badges_sound =
    form_sound badges_rows (search (row_laws, badge_sound, maintenance_sound, maintenance_good))
    badges_built refl

-- PROFILES
pub profile_built : IsBuilt profile_rows
unfolding profile_rows
profile_built = built profile_rows (λ F m. hlevel turned) (λ x. refl) (λ t. refl)

pub profile_sound : IsSound (form profile_rows)
unfolding profile_rows
profile_sound =
    form_sound profile_rows (search row_laws) profile_built refl

pub profiles_built : IsBuilt profiles_rows
unfolding profiles_rows
profiles_built = built profiles_rows (λ F m. hlevel turned) (λ x. refl) (λ t. refl)

pub profiles_sound : IsSound (form profiles_rows)
unfolding profiles_rows
profiles_sound =
    form_sound profiles_rows (search (row_laws, profile_sound))
    profiles_built refl

-- LINTS OF A MANIFEST
pub lints_sound : IsSound (form lints_rows)
unfolding lints_rows
lints_sound =
    form_sound lints_rows (search (row_laws, lint_sound))
    (built lints_rows (λ F m. hlevel turned) (λ x. refl) (λ t. refl)) refl

-- PLATFORM
pub platform_sound : IsSound (form platform_rows)
unfolding platform_rows
platform_sound =
    form_sound platform_rows (search (row_laws, dependency_sound))
    (built platform_rows (λ F m. hlevel turned) (λ x. refl) (λ t. refl)) refl
