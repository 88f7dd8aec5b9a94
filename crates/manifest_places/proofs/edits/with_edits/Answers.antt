use Rattle.std.proofs.Common.{List, map, IsPermutation, string_bytes, subst, sym}
use Rattle.std.proofs.lemmas.List.Sorted.{IsPermutation-map, IsPermutation-trans}
use Rattle.std.proofs.lemmas.Map.Views.{All-map-IsPermutation}
use Rattle.manifest_places.specs.Paths.{Text}
use Rattle.manifest_places.specs.Splices.{Splice, splice_of}
use Rattle.manifest_places.specs.Edits.{Edit, edit_of, Plan, plan_of, edit_in, IsPlan, ArePlans, IsEdit, MakeNone, IsReason}
use Rattle.manifest_places.specs.declared.edits.EditError.{EditError}
use Rattle.manifest_places.specs.declared.edits.EditError.TheVariants.{NotADocument, NotAValue, NoPlace, Overlap, Refused, Memory}
use Rattle.manifest_places.proofs.edits.with_edits.Goals as goal

pub made-requires : goal.made-requires
made-requires c = record {
  read = sym (rw c.in-Some.is at c.in_ok-old.ensures);
  planned =
      All-map-IsPermutation plan_of (IsPlan c.args.text.now) c.in-Ok.plans.items c.sort_by_key.new.self.items
      c.in_ok-sort_by_key.ensures.permutation c.in-Ok.ensures.planned;
}

permuted : (text new : Text) (edits others : List Edit) (replaced : List Splice) → IsPermutation edits others
    → IsEdit text others replaced new
    → IsEdit text edits replaced new
permuted text new edits others replaced same e = record {
  plans = e.plans;
  places = e.places;
  ordered = e.ordered;
  opened = e.opened;
  planned = (IsPermutation-trans edits others (map edit_in e.plans) same e.planned.0, e.planned.1);
  there = e.there;
  whole = e.whole;
  edited = e.edited;
}

made_none : (text : Text) (edits : List Edit) (plans : List Plan) (e : EditError) → ArePlans text edits plans
    → MakeNone text plans e
    → IsReason text edits e
made_none text edits plans NotADocument are none = absurd none
made_none text edits plans NotAValue are none = absurd none
made_none text edits plans NoPlace are none = none
made_none text edits plans Overlap are none = (plans, are, none)
made_none text edits plans Refused are none = (plans, are, none)
made_none text edits plans Memory are none = none

pub returns-in-Err-made-clause-refused : goal.returns-in-Err-made-clause-refused
returns-in-Err-made-clause-refused c =
    let text = c.args.text.now in
    let old = c.in-Ok.plans.items in
    let sorted = c.sort_by_key.new.self.items in
    let moved = c.in_ok-sort_by_key.ensures.permutation in
    let same = IsPermutation-map edit_in (map plan_of old) (map plan_of sorted) (IsPermutation-map plan_of old sorted moved) in
    let From : List Edit → Type 0 = λ es. IsPermutation es (map edit_in (map plan_of sorted)) in
    let all = All-map-IsPermutation plan_of (IsPlan text) old sorted moved c.in-Ok.ensures.planned in
    made_none text (map edit_of c.args.edits.items) (map plan_of sorted) c.in-Err-made.error
    (subst From c.in-Ok.ensures.edits same, all) c.in-Err-made.ensures.refused

pub returns-in-Ok-made-clause-made : goal.returns-in-Ok-made-clause-made
returns-in-Ok-made-clause-made c =
    let old = c.in-Ok.plans.items in
    let sorted = c.sort_by_key.new.self.items in
    let same = IsPermutation-map edit_in (map plan_of old) (map plan_of sorted)
    (IsPermutation-map plan_of old sorted c.in_ok-sort_by_key.ensures.permutation) in
    let From : List Edit → Type 0 = λ es. IsPermutation es (map edit_in (map plan_of sorted)) in
    permuted c.args.text.now (string_bytes c.in-Ok-made.new.text) (map edit_of c.args.edits.items)
    (map edit_in (map plan_of sorted)) (map splice_of c.in-Ok-made.new.replaced.items) (subst From c.in-Ok.ensures.edits same) c.in-Ok-made.ensures.made
