use Rattle.std.proofs.Common.{rules}
use Rattle.toml.specs.View.{view}
use Rattle.manifest_places.specs.Paths.{path_of}
use Rattle.manifest_places.specs.Places.{Place}
use Rattle.manifest_places.proofs.planning.set_plan.Goals as goal

pub returns-clause-plan : goal.returns-clause-plan
returns-clause-plan c =
    let place : Place = record {
      path = path_of c.args.path.items;
      from = c.in-Some.found.now.value.from;
      to = c.in-Some.found.now.value.to;
    } in (
      place,
      view c.in-Some-2.read,
      search rules,
      search rules,
      search rules,
      search rules,
      search rules,
      search rules,
    )
