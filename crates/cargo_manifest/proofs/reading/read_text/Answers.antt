use Rattle.toml.specs.View.{table_view}
use Rattle.cargo_manifest.proofs.FaultLemmas.{refuses_text}
use Rattle.cargo_manifest.proofs.reading.read_text.Goals as goal

pub returns-in-Err-read_document-clause-refused : goal.returns-in-Err-read_document-clause-refused
returns-in-Err-read_document-clause-refused g c =
    refuses_text _ _ c.args.text.now (table_view c.in-Ok.table) c.in-Err-read_document.refused c.in-Ok.ensures.ok
    c.in-Err-read_document.ensures.refused
