use Rattle.manifest_schema.proofs.Values.NeedLaws.{optional_sound, default_sound, lenient_optional_sound, lenient_default_sound, default_finds, lenient_default_finds}
use Rattle.manifest_schema.proofs.kinds.needs_are_sound.Goals as goal

pub returns-clause-optional_is : goal.returns-clause-optional_is
returns-clause-optional_is g c = optional_sound g.met.K.SoundKind.sound

pub returns-clause-default_is : goal.returns-clause-default_is
returns-clause-default_is g c = λ e skipped d. default_sound g.met.K.SoundKind.sound e skipped d

pub returns-clause-lenient_optional_is : goal.returns-clause-lenient_optional_is
returns-clause-lenient_optional_is g c = lenient_optional_sound g.met.K.SoundKind.sound

pub returns-clause-lenient_default_is : goal.returns-clause-lenient_default_is
returns-clause-lenient_default_is g c = λ e good. lenient_default_sound g.met.K.SoundKind.sound e good

pub returns-clause-any_default : goal.returns-clause-any_default
returns-clause-any_default g c = λ e skipped. default_finds g.met.K.SoundKind.sound e skipped

pub returns-clause-any_lenient_default : goal.returns-clause-any_lenient_default
returns-clause-any_lenient_default g c = λ e. lenient_default_finds g.met.K.SoundKind.sound e
