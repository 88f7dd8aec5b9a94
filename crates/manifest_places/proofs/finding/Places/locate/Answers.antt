use Rattle.std.proofs.Common.{[], refl, sym, inr, ◌∙◌}
use Rattle.std.proofs.lemmas.List.{length-map}
use Rattle.manifest_places.specs.Paths.{path_of, step_of}
use Rattle.manifest_places.proofs.LocatedLemmas.{path_in_two}
use Rattle.manifest_places.proofs.finding.Places.locate.Goals as goal

pub returns-in_default : goal.returns-in_default
returns-in_default c = (
  [],
  path_of c.args.path.now,
  refl,
  refl,
  inr (inr record { is_empty = refl; no_value = refl; no_key = refl; no_header = refl }),
)

pub returns-in_default-node : goal.returns-in_default-node
returns-in_default-node c = (
  [],
  path_of c.args.path.now,
  refl,
  refl,
  inr (inr record { is_empty = refl; no_value = refl; no_key = refl; no_header = refl }),
)

pub returns-in-None : goal.returns-in-None
returns-in-None c = (
  [],
  path_of c.args.path.now,
  refl,
  refl,
  inr (inr record { is_empty = refl; no_value = refl; no_key = refl; no_header = refl }),
)

pub returns-in-Some-standing : goal.returns-in-Some-standing
returns-in-Some-standing c =
    let (within, front_is, rest_is, n, m) = c.in-Some.ensures.cases in
    let front = c.in-Some.front.now in
    let rest = c.in-Some._rest.now in (
      path_of front,
      path_of rest,
      path_in_two c.args.path.now front rest _ front_is rest_is,
      length-map front step_of ∙ sym c.in-Some-standing.ensures.0,
      c.in-Some-standing.ensures.1,
    )
