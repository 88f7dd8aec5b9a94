use Rattle.toml.specs.View.{table_view}
use Rattle.manifest_schema.proofs.Values.KindLaws.{tree_sound}
use Rattle.cargo_manifest.proofs.FaultLemmas.{refuses_table}
use Rattle.cargo_manifest.proofs.reading.read_document.Goals as goal

pub returns-in-Err-clause-refused : goal.returns-in-Err-clause-refused
returns-in-Err-clause-refused g c =
    refuses_table (tree_sound g.met.P.Schema.lawful) (tree_sound g.met.W.Schema.lawful)
    (table_view c.args.table) c.in-Err.fault c.refusal.result
    c.in-Err.ensures c.refusal.ensures
