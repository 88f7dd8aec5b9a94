use Rattle.std.proofs.Common.{rules}
use Rattle.toml.specs.View.{view}
use Rattle.manifest_places.proofs.putting.insert_plan.Goals as goal

pub returns-clause-plan : goal.returns-clause-plan
returns-clause-plan c =
    (view c.in-Some-2.read, search rules, search rules, search rules, search rules, search rules)
