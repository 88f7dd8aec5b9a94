use Rattle.manifest_schema.specs.Prelude.{members_view, Value, plain_members, key, faults_of, entry_floats}
use Rattle.std.proofs.Common.{arith, add-one, String, Global, string_bytes, ap, ◌∙◌}
use Rattle.manifest_fault.specs.Faults.{IsUnder}
use Rattle.manifest_value.proofs.FloatLemmas.{plain_left, plain_before, first_float_item, plain_entry_before, first_float_entry}
use Rattle.manifest_value.proofs.raw_values.+places.Goals as goal

abbrev Entry : Type 0
Entry = String Global × Value

pub refuse_float_in_members-loop-key-preserved : goal.refuse_float_in_members-loop-key-preserved
refuse_float_in_members-loop-key-preserved t c =
    let (left, before) = c.loop-key.invariant in
    let e : Entry = (c.in-Some.key.now, c.in-Some.member.now) in
    let plain_here = c.in_default.ensures in (
      left ∙ ap (λ es. plain_members (members_view es)) c.in-Some.ensures.steps ∙ rw plain_here,
      plain_entry_before
          c.args.members.now.entries e c.next.new.self (before ∙ ap (λ es. faults_of (entry_floats (members_view es)))
          c.in-Some.ensures.steps) plain_here,
    )

pub refuse_float_in_items-returns-in-Err : goal.refuse_float_in_items-returns-in-Err
refuse_float_in_items-returns-in-Err t c =
    rw (← c.deref-item-items.ensures.value)
    (first_float_item c.deref-item-items.result.now c.loop-i.i c.item-item.result (omega arith) c.item-item.is
    c.in-Err.fault c.fault_under_step.result c.loop-i.invariant.1 c.in-Err.ensures c.fault_under_step.ensures)

pub refuse_float_in_items-loop-i-preserved : goal.refuse_float_in_items-loop-i-preserved
refuse_float_in_items-loop-i-preserved t c =
    let vs = c.deref-item-items.result.now in
    let i = c.loop-i.i in
    let v = c.item-item.result in
    let plain_here = c.in_default.ensures in (
      rw add-one (c.loop-i.invariant.0 ∙ plain_left vs i v (omega arith) c.item-item.is plain_here),
      rw add-one (c.loop-i.invariant.1 ∙ plain_before vs i v (omega arith) c.item-item.is plain_here),
    )

pub refuse_float_in_members-returns-in-Err : goal.refuse_float_in_members-returns-in-Err
refuse_float_in_members-returns-in-Err t c =
    let (left, before) = c.loop-key.invariant in
    let e : Entry = (c.in-Some.key.now, c.in-Some.member.now) in
    let under : IsUnder (key (string_bytes e.0)) c.in-Err.fault c.fault_under_key.result = rw c.as_str.ensures.value at
    c.fault_under_key.ensures in
    first_float_entry c.args.members.now.entries e c.next.new.self (before
    ∙ ap (λ es. faults_of (entry_floats (members_view es))) c.in-Some.ensures.steps) c.in-Err.fault
    c.fault_under_key.result c.in-Err.ensures under
