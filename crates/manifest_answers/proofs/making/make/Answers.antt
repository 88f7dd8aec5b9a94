use Rattle.manifest_schema.specs.Prelude.{IfOk-weaker, IfErr-weaker, view, Text}
use Rattle.std.proofs.Common.{Some, inr, subst}
use Rattle.std.specs.Prelude.{option_copied}
use Rattle.cargo_manifest.specs.Whole.{manifest_content}
use Rattle.manifest_completion.specs.Listings.{Answer}
use Rattle.manifest_answers.specs.Made.{MakesOver, RefusesOver}
use Rattle.manifest_answers.proofs.making.make.Goals as goal

pub returns-in-Ok-clause-ok : goal.returns-in-Ok-clause-ok
returns-in-Ok-clause-ok c =
    let root = option_copied c.args.root in
    rw c.in-Some.is (IfOk-weaker c.make_over.result _ _
    (λ m h. (
      c.in-Ok.ensures.listings,
      subst (λ (stored : Text → Answer). MakesOver c.args.most c.args.input
          c.args.bytes.now root (Some stored) (manifest_content view view m.value)) c.in-Ok.ensures.ok h,
    ))
    c.make_over.ensures.ok)

pub returns-in-Ok-clause-refused : goal.returns-in-Ok-clause-refused
returns-in-Ok-clause-refused c =
    let root = option_copied c.args.root in
    rw c.in-Some.is (IfErr-weaker c.make_over.result _ _
    (λ e h. inr (subst (λ (stored : Text → Answer). RefusesOver c.args.most c.args.input c.args.bytes.now root
    (Some stored) e) c.in-Ok.ensures.ok h)) c.make_over.ensures.refused)

pub returns-in-None-clause-refused : goal.returns-in-None-clause-refused
returns-in-None-clause-refused c = rw c.in-None.is (IfErr-weaker c.make_over-in-None.result _ _ (λ e h. inr h)
    c.make_over-in-None.ensures.refused)
