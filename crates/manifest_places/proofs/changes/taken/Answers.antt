use Rattle.std.proofs.Common.{option_map, ap, ◌∙◌}
use Rattle.toml.specs.View.{view}
use Rattle.toml.proofs.Views.{view-lookup}
use Rattle.manifest_places.proofs.ChangeLemmas.{without_entry}
use Rattle.manifest_places.proofs.changes.taken.Goals as goal

pub returns-clause-value : goal.returns-clause-value
returns-clause-value c = ap (option_map view) c.remove.ensures.value
    ∙ view-lookup c.args.key.now c.args.table.now.entries

pub returns-clause-rest : goal.returns-clause-rest
returns-clause-rest c = rw (c.remove.ensures.entries, c.remove.ensures.value)
    (without_entry c.args.key.now c.args.table.now.entries)
