use Rattle.toml.specs.View.{view}
use Rattle.cargo_manifest.specs.Whole.{manifest_content}
use Rattle.manifest_inherit.specs.Finished.{root_of}
use Rattle.manifest_answers.proofs.StoredLemmas.{finished_as_stored, unfinished_as_stored}
use Rattle.manifest_answers.proofs.making.finish_by.Goals as goal

pub returns-in-Ok-clause-ok : goal.returns-in-Ok-clause-ok
returns-in-Ok-clause-ok c =
    let within = rw c.if-not-inherits_within.false at c.inherits_within.ensures in
    finished_as_stored c.stored_decides.ensures c.args.most (root_of c.args.root) c.args.folders
    (manifest_content view view c.args.manifest.now) (manifest_content view view c.finish.new.manifest) within
    c.in-Ok.ensures.ok

pub returns-in-Err-clause-refused : goal.returns-in-Err-clause-refused
returns-in-Err-clause-refused c = unfinished_as_stored c.stored_decides.ensures c.args.most (root_of c.args.root)
    c.args.folders (manifest_content view view c.args.manifest.now) (manifest_content view view c.finish.new.manifest)
    c.in-Err.refused c.in-Err.ensures.refused
