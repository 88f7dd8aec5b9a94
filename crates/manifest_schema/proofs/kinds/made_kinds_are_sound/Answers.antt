use Rattle.manifest_schema.proofs.Values.KindLaws.{list_sound, map_sound, inh_sound, tree_sound}
use Rattle.manifest_schema.proofs.Meaning.OldLaws.{inh_total}
use Rattle.manifest_schema.proofs.kinds.made_kinds_are_sound.Goals as goal

pub returns-clause-list_is : goal.returns-clause-list_is
returns-clause-list_is g c = list_sound g.met.K.SoundKind.sound

pub returns-clause-map_is : goal.returns-clause-map_is
returns-clause-map_is g c = map_sound g.met.K.SoundKind.sound

pub returns-clause-inh_is : goal.returns-clause-inh_is
returns-clause-inh_is g c = λ plain. inh_sound g.met.K.SoundKind.sound plain

pub returns-clause-tree_is : goal.returns-clause-tree_is
returns-clause-tree_is g c = tree_sound g.met.K.SoundKind.sound

pub returns-clause-any_inh_is_total : goal.returns-clause-any_inh_is_total
returns-clause-any_inh_is_total g c = inh_total g.met.K.SoundKind.sound
