-- A lemma on what is put at a path.
use Rattle.std.proofs.Common.{◌≡◌, Bool, true, false, cond, refl}

-- a function of a choice
pub ap_cond : {A B : Type 0} (f : A → B) (b : Bool) (x y : A) → f (cond b x y) ≡ cond b (f x) (f y)
ap_cond f true x y = refl
ap_cond f false x y = refl
