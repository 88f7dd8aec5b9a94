use Rattle.manifest_schema.proofs.Meaning.OldLaws.{total_of, tidy_of}
use Rattle.manifest_schema.proofs.kinds.laws_one_by_one.Goals as goal

pub returns-clause-total : goal.returns-clause-total
returns-clause-total g c = total_of g.met.K.SoundKind.sound

pub returns-clause-tidy : goal.returns-clause-tidy
returns-clause-tidy g c = tidy_of g.met.K.SoundKind.sound
