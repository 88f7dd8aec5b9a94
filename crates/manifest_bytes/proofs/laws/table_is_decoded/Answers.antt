use Rattle.manifest_schema.specs.Kinds.{tree_of}
use Rattle.manifest_bytes.proofs.FloatLemmas.{table_is_decoded}
use Rattle.manifest_bytes.proofs.laws.table_is_decoded.Goals as goal

pub returns : goal.returns
returns g c = table_is_decoded (tree_of g.P.AnyKind.kind) (tree_of g.W.AnyKind.kind)
