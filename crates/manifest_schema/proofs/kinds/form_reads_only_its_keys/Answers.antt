use Rattle.manifest_schema.proofs.Findings.Pinned.{form_reads_only}
use Rattle.manifest_schema.proofs.kinds.form_reads_only_its_keys.Goals as goal

pub returns : goal.returns
returns g c = λ closed. form_reads_only g.F.AnyForm.rows closed
