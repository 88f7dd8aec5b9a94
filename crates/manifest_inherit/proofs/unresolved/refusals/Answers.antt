use Rattle.std.proofs.Common.{refl, ap}
use Rattle.manifest_inherit.specs.Refused.{all_refusals}
use Rattle.manifest_inherit.proofs.ListLemmas.{refusals_of, refused_under}
use Rattle.manifest_inherit.proofs.unresolved.refusals.Goals as goal

pub returns : goal.returns
unfolding all_refusals
returns g c =
    rw (
      refused_under _ _ _ _ c.in_ok-list-6.ensures,
      c.in_ok-inside-6.ensures,
      refused_under _ _ _ _ c.in_ok-list-5.ensures,
      c.in_ok-inside-5.ensures,
      refused_under _ _ _ _ c.in_ok-list-4.ensures,
      c.in_ok-inside-4.ensures,
      refused_under _ _ _ _ c.in_ok-list-3.ensures,
      c.in_ok-inside-3.ensures,
      refused_under _ _ _ _ c.in_ok-list-2.ensures,
      c.in_ok-inside-2.ensures,
      refused_under _ _ _ _ c.in_ok-list.ensures,
      c.in_ok-inside.ensures,
      ap refusals_of c.none.ensures,
    ) refl
