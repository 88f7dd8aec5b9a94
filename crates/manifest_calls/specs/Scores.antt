-- The form of a score, with its laws.
use Rattle.manifest_schema.specs.Prelude.{Data, integer, table, member, only, put_some, whole, plain, required, Rows, no_more, ◌⨾◌, form, IsSound, AreSound, IsBuilt}
use Rattle.std.specs.Prelude.{◌≡◌, ℤ, pos, codes, IsTrue, refl}
use Rattle.std.proofs.Common.{subst, ap}
use Rattle.manifest_schema.specs.Forms.{row}
use Rattle.manifest_schema.proofs.Values.KindLaws.{whole_sound}
use Rattle.manifest_schema.proofs.Values.NeedLaws.{required_sound}
use Rattle.manifest_schema.proofs.Forms.FormLaws.{form_sound}

-- a level from 0 to 9; all other keys are free
unfoldable pub score_rows : Rows ℤ
score_rows = row (λ x. x) (only (codes "level")) (required (whole (pos 0) (pos 9))) ⨾ no_more

-- the laws of its kind
score_built : IsBuilt score_rows
unfolding score_rows
score_built = record { build = λ t. t.0; all = λ x. refl; each = λ t. refl }

score_rows_sound : AreSound score_rows
unfolding score_rows
score_rows_sound = (required_sound (whole_sound (pos 0) (pos 9)), tt)

pub score_sound : IsSound (form score_rows)
unfolding score_rows
score_sound = form_sound score_rows score_rows_sound score_built refl

-- no float is written of a score
pub score_plain : (x : ℤ) → (form score_rows).good x → IsTrue (plain ((form score_rows).written x))
unfolding score_rows put_some
score_plain x g = refl

-- the level that a written table has
abbrev level_of : Data → ℤ
level_of (table (member k (integer z) ms)) = z
level_of _ = pos 0

-- whether a score is well-formed is shown by its table
pub score_by_tree :
    (x y : ℤ) → (form score_rows).good x →
    (form score_rows).written x ≡ (form score_rows).written y → (form score_rows).good y
unfolding score_rows put_some
score_by_tree x y g e = subst (λ (z : ℤ). (form score_rows).good z) (ap level_of e) g
