use Rattle.std.proofs.Common.{◌≡◌, true, sym, ap, ◌∙◌, subst, T, eqb-true, eq-eqb}
use Rattle.std.specs.Float.{binary64}
use Rattle.std.specs.Float.Ieee
use lib.Ieee.Bits.{of_bits-to_bits}
use Rattle.manifest_places.proofs.compare.same_float.Goals as goal

pub returns : goal.returns
returns c =
    let back = λ (v : Ieee.Float) (fits : Ieee.fits binary64 v ≡ true). of_bits-to_bits binary64 v
    (subst T (sym fits) tt) in
    rw (c.f64_to_bits_with_nan.ensures, c.f64_to_bits_with_nan-2.ensures) (
      (λ same. sym (back c.args.a c.well_formed.0.1) ∙ ap (Ieee.of_bits binary64) (eqb-true _ _ same)
          ∙ back c.args.b c.well_formed.1.0.1),
      (λ same. eq-eqb (Ieee.to_bits binary64 c.args.a) (Ieee.to_bits binary64 c.args.b)
          (ap (Ieee.to_bits binary64) same)),
    )
