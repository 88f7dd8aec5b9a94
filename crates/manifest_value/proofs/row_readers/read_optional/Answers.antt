use Rattle.manifest_value.proofs.row_readers.read_optional.Goals as goal

pub returns-in-One-clause-gives : goal.returns-in-One-clause-gives
returns-in-One-clause-gives g c = rw (← c.in-One.ensures) (c.fill_with.ensures.gives c.args.key.now)
