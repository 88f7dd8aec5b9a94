use Rattle.manifest_schema.specs.Prelude.{HasWritten, IsPlainFormatter, next_text}
use Rattle.std.proofs.Common.{flat_map, take}
use Rattle.manifest_fault.specs.Faults.{step_of}
use Rattle.manifest_fault.proofs.path_text.KeyPathDisplay.fmt.Given as goal

abbrev pub invariant-loop-step : goal.invariant-loop-step
invariant-loop-step g l =
    IsPlainFormatter l.initial.f → HasWritten g.W.Write.write_str_gives l.initial.f
    (flat_map (λ s. next_text (step_of s)) (take l.step-index l.rest)) l.f
