use Rattle.toml.specs.View.{view}
use Rattle.std.proofs.Common.{Ok, Err}
use Rattle.cargo_manifest.specs.Whole.{manifest_content}
use Rattle.manifest_answers.specs.Given.{given_by}
use Rattle.manifest_answers.proofs.unfound.unfound_paths.Goals as goal

pub returns-in-Ok-clause-ok : goal.returns-in-Ok-clause-ok
returns-in-Ok-clause-ok c =
    c.stored_decides_unfound.ensures (given_by c.args.folders.now) (manifest_content view view c.args.manifest.now)
    (Ok c.in-Ok.paths) c.in-Ok.ensures.answers

pub returns-in-Err-clause-refused : goal.returns-in-Err-clause-refused
returns-in-Err-clause-refused c =
    c.stored_decides_unfound.ensures (given_by c.args.folders.now) (manifest_content view view c.args.manifest.now)
    (Err c.in-Err.error) c.in-Err.ensures.answers
