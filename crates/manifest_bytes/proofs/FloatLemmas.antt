-- No table that is written of a well-formed manifest has a float, where none is written of metadata.
use Rattle.manifest_schema.specs.Prelude.{IfSome, Data, Kind, plain, tree_of, good_some, form, profiles_rows, package_rows, workspace_rows, written_manifest}
use Rattle.std.proofs.Common.{◌≡◌, true, Option, Some, None, sym, ap, ◌∙◌, subst, rules}
use Rattle.manifest_schema.specs.Contents.{Profiles}
use Rattle.manifest_schema.proofs.Forms.PartLaws.{profiles_sound}
use Rattle.manifest_schema.proofs.Values.GoodLaws.{package_metadata_good, workspace_metadata_good, manifest_parts_good}
use Rattle.manifest_schema.proofs.Values.ScalarLaws.{ByScalars, both_are, manifest_has, profiles_turn}
use Rattle.manifest_bytes.specs.Laws.{IsFloatless, TableIsDecoded}
use Rattle.manifest_bytes.proofs.DecodedLemmas.{encoded_is_decoded}

-- metadata of a kind that writes no float
pub tree_floatless : {A : Type 0} (K : Kind A) → ((x : A) → K.good x → plain (K.written x) ≡ true)
    → IsFloatless (tree_of K)
tree_floatless K h x g = ap plain (sym g.2) ∙ h g.0 g.1

-- the property of values without floats, and the one that every value has
floats_by_scalars : ByScalars (λ d. plain d ≡ true)
floats_by_scalars = search (rules, both_are)

any_by_scalars : ByScalars (λ d. Unit {0})
any_by_scalars = search rules

-- what is well-formed in profiles is read from what is written of them
profiles_floatless : (p : Profiles) → (form profiles_rows).good p → plain ((form profiles_rows).written p) ≡ true
profiles_floatless p g =
    profiles_turn any_by_scalars floats_by_scalars (λ d x v m. subst (λ e. plain e ≡ true) m.0 m.1)
    ((form profiles_rows).written p) p tt (profiles_sound.back p g).0

if_good : {A : Type 0} (K : Kind A) {Q : A → Type 0} → ((x : A) → K.good x → Q x) → (o : Option A) → good_some K o
    → IfSome o Q
if_good K f None g = tt
if_good K f (Some x) g = f x g

pub table_is_decoded : (K W : Kind Data) → TableIsDecoded K W
table_is_decoded K W k w m g =
    let parts = manifest_parts_good K W m g in
    let packages = if_good (form (package_rows K)) (λ p h. if_good K k p.metadata (package_metadata_good K p h))
    m.«package» parts.0 in
    let workspaces = if_good (form (workspace_rows W)) (λ v h. if_good W w v.metadata (workspace_metadata_good W v h))
    m.workspace parts.1 in
    let profiles = if_good (form profiles_rows) profiles_floatless m.profile parts.2 in
    encoded_is_decoded (written_manifest K W m) (manifest_has floats_by_scalars K W m packages workspaces profiles)
