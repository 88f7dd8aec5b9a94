use Rattle.manifest_schema.specs.Prelude.{Data, Kind, tree_of}
use Rattle.manifest_schema.proofs.Values.KindLaws.{tree_sound}
use Rattle.manifest_completion.proofs.CompletedLaws.{completed_fixed}
use Rattle.cargo_manifest.proofs.WellFormedLaws.{package_by_metadata, workspace_by_parts, manifest_by_parts}
use Rattle.manifest_inherit.specs.Laws.{ResolvedIsWellFormed}
use Rattle.manifest_inherit.proofs.SettledLaws.{resolved_is_settled, own_is_settled}
use Rattle.manifest_inherit.proofs.FormedLaws.{stays_well_formed, completed_stays}
use Rattle.manifest_inherit.proofs.laws.resolved_is_fixed.Goals as goal

formed : (K W V : Kind Data) → ResolvedIsWellFormed K W V
formed K W V = stays_well_formed K W V (package_by_metadata K) (workspace_by_parts V) (manifest_by_parts K W)

pub returns-clause-settled : goal.returns-clause-settled
returns-clause-settled g c = resolved_is_settled

pub returns-clause-own : goal.returns-clause-own
returns-clause-own g c = own_is_settled

pub returns-clause-formed : goal.returns-clause-formed
returns-clause-formed g c = formed (tree_of g.P.Schema.kind) (tree_of g.W.Schema.kind) (tree_of g.V.Schema.kind)

pub returns-clause-completed : goal.returns-clause-completed
returns-clause-completed g c =
    let K = tree_of g.P.Schema.kind in
    let W = tree_of g.W.Schema.kind in
    let V = tree_of g.V.Schema.kind in
    completed_stays K W V (formed K W V)
    (completed_fixed K W (tree_sound g.met.P.Schema.lawful) (tree_sound g.met.W.Schema.lawful))
