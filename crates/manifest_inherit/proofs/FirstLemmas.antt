-- A manifest has no refusal exactly if none of its parts has.
use Rattle.manifest_schema.specs.Prelude.{Text, Entries, Dependency, Manifest, Workspace}
use Rattle.std.proofs.Common.{◌≡◌, Option, List, [], ◌∷◌, ◌++◌, refl}
use Rattle.manifest_inherit.specs.Fields.{lendable}
use Rattle.manifest_inherit.specs.Resolved.{shared_dependencies}
use Rattle.manifest_fault.specs.Placed.{placed_under}
use Rattle.manifest_inherit.specs.Refused.{PlacedRefusals, fields_refusals, dependencies_refusals, platforms_refusals, lints_refusals, some_refusals, all_refusals}

pub none_in_both : {A : Type 0} (xs ys : List A) → xs ++ ys ≡ [] → (xs ≡ []) × (ys ≡ [])
none_in_both [] ys h = (refl, h)
none_in_both (x ∷ xs) ys h = cc

pub none_below : (name : Text) (fs : PlacedRefusals) → placed_under name fs ≡ [] → fs ≡ []
none_below name [] h = refl
none_below name (f ∷ fs) h = cc

-- A MANIFEST, by its parts
module _ (m : Manifest) (w : Workspace) where
  abbrev pub of_package : PlacedRefusals
  of_package = some_refusals (fields_refusals lendable w.«package») m.«package»

  abbrev pub of_map : Option (Entries Dependency) → PlacedRefusals
  of_map = some_refusals (dependencies_refusals (shared_dependencies w))

  abbrev pub of_platforms : PlacedRefusals
  of_platforms = some_refusals (platforms_refusals (shared_dependencies w)) m.target

  abbrev pub of_lints : PlacedRefusals
  of_lints = some_refusals (lints_refusals w.lints) m.lints

  -- NO REFUSAL: none of a part
  pub none_in_parts : all_refusals m w ≡ []
      → (of_package ≡ []) × (of_map m.dependencies ≡ []) × (of_map m.dev_dependencies ≡ [])
      × (of_map m.build_dependencies ≡ []) × (of_platforms ≡ []) × (of_lints ≡ [])
  unfolding all_refusals
  none_in_parts h =
      let (abcde, f) = none_in_both _ _ h in
      let (abcd, e) = none_in_both _ _ abcde in
      let (abc, d) = none_in_both _ _ abcd in
      let (ab, c) = none_in_both _ _ abc in
      let (a, b) = none_in_both _ _ ab in
      (none_below _ _ a, none_below _ _ b, none_below _ _ c, none_below _ _ d, none_below _ _ e, none_below _ _ f)

  pub all_none : of_package ≡ [] → of_map m.dependencies ≡ [] → of_map m.dev_dependencies ≡ []
      → of_map m.build_dependencies ≡ [] → of_platforms ≡ [] → of_lints ≡ [] → all_refusals m w ≡ []
  unfolding all_refusals
  all_none a b c d e f = rw (a, b, c, d, e, f) refl
