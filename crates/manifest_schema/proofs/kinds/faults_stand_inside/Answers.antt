use Rattle.manifest_schema.proofs.Findings.FaultPlaces.{faulty_unless_inherited}
use Rattle.manifest_schema.proofs.kinds.faults_stand_inside.Goals as goal

pub returns-clause-of_inherited : goal.returns-clause-of_inherited
returns-clause-of_inherited g c = faulty_unless_inherited g.K.AnyKind.kind
