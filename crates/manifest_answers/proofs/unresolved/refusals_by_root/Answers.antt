use Rattle.toml.specs.View.{view}
use Rattle.std.proofs.Common.{inr, ap}
use Rattle.std.specs.Prelude.{option_map}
use Rattle.cargo_manifest.specs.Tables.{workspace_content}
use Rattle.cargo_manifest.specs.Whole.{manifest_content}
use Rattle.manifest_answers.specs.Unresolved.{GivesByRoot, RefusesByRoot}
use Rattle.manifest_answers.proofs.StepLemmas.{made_weaker}
use Rattle.manifest_answers.proofs.unresolved.refusals_by_root.Goals as goal

pub returns-in-Some : goal.returns-in-Some
returns-in-Some c =
    let w = workspace_content view c.in-Some.workspace in
    let is = ap (option_map (workspace_content view)) c.in-Some.is in
    let m = manifest_content view view c.args.member.now in
    let r = manifest_content view view c.args.lender.now in
    let most = c.args.most in
    let bytes = c.args.bytes.now in
    let root = c.args.root.now in
    made_weaker _ (GivesByRoot most bytes root m r) _ (RefusesByRoot most bytes root m r) _ (λ t h. (w, is, h)) (λ e h. inr (w, is, h)) c.refusals_over.ensures
