use Rattle.manifest_schema.proofs.Findings.Pinned.{inherited_unused}
use Rattle.manifest_schema.proofs.kinds.unused_keys_are_those.Goals as goal

pub returns-clause-of_inherited : goal.returns-clause-of_inherited
returns-clause-of_inherited g c = inherited_unused g.K.AnyKind.kind
