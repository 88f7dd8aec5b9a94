use Rattle.std.proofs.Common.{refl}
use Rattle.manifest_inherit.specs.Resolved.{resolved}
use Rattle.manifest_inherit.proofs.resolution.make_all.Goals as goal

pub returns : goal.returns
unfolding resolved
returns g c =
    rw (
      c.in_ok-make_package.ensures,
      c.in_ok-make_map.ensures,
      c.in_ok-make_map-2.ensures,
      c.in_ok-make_map-3.ensures,
      c.in_ok-make_map-4.ensures,
      c.in_ok-make_lints.ensures,
    ) refl
