use Rattle.manifest_answers.proofs.reading.read.Goals as goal

pub returns-in-Ok-clause-ok : goal.returns-in-Ok-clause-ok
returns-in-Ok-clause-ok c = rw c.in-Toml.is c.in-Ok.ensures.ok

pub returns-in-Ok-from_tagged-clause-ok : goal.returns-in-Ok-from_tagged-clause-ok
returns-in-Ok-from_tagged-clause-ok c = rw c.in-Tagged.is c.in-Ok-from_tagged.ensures.ok
