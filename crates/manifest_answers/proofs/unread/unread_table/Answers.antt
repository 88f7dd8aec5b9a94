use Rattle.manifest_schema.specs.Kinds.{unread}
use Rattle.cargo_manifest.specs.Whole.{manifest_of}
use Rattle.manifest_answers.proofs.UnreadLemmas.{unread_made}
use Rattle.manifest_answers.proofs.unread.unread_table.Goals as goal

pub returns : goal.returns
returns c = unread_made c.args.most c.args.bytes.now (manifest_of unread unread (λ u. tt) (λ u. tt)
    c.in-Ok.manifest.value) c.table_of_unread-table.result c.in-Ok.ensures.ok
    (rw c.deref.ensures at c.table_of_unread-table.ensures)
