use Rattle.std.proofs.Common.{◌≡◌, List, [], ◌∷◌, ◌++◌, length, map, All, Any, sym, ap, subst, ◌∙◌, append_assoc, arith}
use Rattle.std.proofs.lemmas.Grind.{common_steps}
use Rattle.std.proofs.lemmas.List.{map-append}
use Rattle.std.proofs.lemmas.List.Elements.{All-push}
use Rattle.std.specs.Vec.Iter.{into_iter_items}
use Rattle.manifest_places.specs.Paths.{Text}
use Rattle.manifest_places.specs.Edits.{Edit as EditOf, edit_of, plan_of, edit_in, IsPlan, HasNoValue, NoPlan, IsReason}
use Rattle.manifest_places.specs.declared.edits.EditError.{EditError}
use Rattle.manifest_places.specs.declared.edits.EditError.TheVariants.{NotADocument, NotAValue, NoPlace, Overlap, Refused, Memory}
use Rattle.manifest_places.specs.declared.edits.Edit.{Edit}
use Rattle.manifest_places.specs.declared.planning.Plan.{Plan}
use Rattle.manifest_places.proofs.edits.plans_of.Goals as goal

more_planned : (text : Text) (plans : List Plan) (plan : Plan) → All (IsPlan text) (map plan_of plans)
    → IsPlan text (plan_of plan)
    → All (IsPlan text) (map plan_of (plans ++ plan ∷ []))
more_planned text plans plan all one =
    rw (map-append plan_of plans (plan ∷ [])) (All-push (IsPlan text) (map plan_of plans) (plan_of plan) all one)

more_edits : (plans : List Plan) (plan : Plan) (edit : Edit) (rest : List Edit) → edit_of plan.edit ≡ edit_of edit
    → map edit_in (map plan_of (plans ++ plan ∷ [])) ++ map edit_of rest
    ≡ map edit_in (map plan_of plans) ++ map edit_of (edit ∷ rest)
more_edits plans plan edit rest same =
    rw (map-append plan_of plans (plan ∷ []), map-append edit_in (map plan_of plans) (plan_of plan ∷ []), same)
    (append_assoc (map edit_in (map plan_of plans)) (edit_of edit ∷ []) (map edit_of rest))

any_between : (P : EditOf → Type 0) (xs ys : List EditOf) (y : EditOf) → P y → Any P (xs ++ y ∷ ys)
any_between P xs ys y p = (length xs, y, grind (arith, common_steps), grind (arith, common_steps), p)

reason_of : (text : Text) (edits : List EditOf) (edit : EditOf) (e : EditError)
    → (HasNoValue edit → Any HasNoValue edits) → NoPlan edit e
    → IsReason text edits e
reason_of text edits edit NotADocument any none = absurd none
reason_of text edits edit NotAValue any none = any none
reason_of text edits edit NoPlace any none = none
reason_of text edits edit Overlap any none = absurd none
reason_of text edits edit Refused any none = absurd none
reason_of text edits edit Memory any none = none

pub returns-in-Err-clause-refused : goal.returns-in-Err-clause-refused
returns-in-Err-clause-refused c =
    let before = map edit_in (map plan_of c.loop-edit.plans.items) in
    let edit = c.in-Some.edit in
    let rest = map edit_of (into_iter_items c.next.new.self) in
    let steps : into_iter_items c.loop-edit.edit-iterator ≡ edit ∷ into_iter_items c.next.new.self = c.in-Some.ensures.steps.0 in
    let all = ap (λ es. before ++ map edit_of es) (sym steps) ∙ c.loop-edit.invariant.1 in
    let Of : List EditOf → Type 0 = λ es. HasNoValue (edit_of edit) → Any HasNoValue es in
    reason_of c.args.text.now (map edit_of c.args.edits.items) (edit_of edit) c.in-Err.error
    (subst Of all (any_between HasNoValue before rest (edit_of edit))) c.in-Err.ensures.refused

pub loop-edit-preserved : goal.loop-edit-preserved
loop-edit-preserved c =
    let plans = c.loop-edit.plans.items in
    let plan = c.in-Ok-planned.plan in
    let edit = c.in-Some.edit in
    let rest = into_iter_items c.next.new.self in
    let steps : into_iter_items c.loop-edit.edit-iterator ≡ edit ∷ rest = c.in-Some.ensures.steps.0 in
    let edits =
    more_edits plans plan edit rest c.in-Ok-planned.ensures.edit
    ∙ ap (λ es. map edit_in (map plan_of plans) ++ map edit_of es) (sym steps)
    ∙ c.loop-edit.invariant.1 in (
      rw c.in_ok-push.ensures.items
          (more_planned c.args.text.now plans plan c.loop-edit.invariant.0 c.in-Ok-planned.ensures.plan),
      rw c.in_ok-push.ensures.items edits,
    )
