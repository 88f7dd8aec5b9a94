use Rattle.std.proofs.Common.{◌≡◌, drop}
use Rattle.std.specs.Prelude.{false}
use Rattle.manifest_nesting.specs.Skipped as spec
use Rattle.manifest_nesting.proofs.skipping.after_content.Given as goal

-- the rest of the text ends where all of it does
abbrev pub invariant-loop-at : goal.invariant-loop-at
invariant-loop-at l =
    spec.after_content l.several l.quote l.escaped (drop l.at l.text)
    ≡ spec.after_content l.several l.quote false l.text
