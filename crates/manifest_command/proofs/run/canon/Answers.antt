use Rattle.std.proofs.lemmas.Result.{on_ok_weaker, IfErr-weaker}
use Rattle.manifest_command.specs.Run.{IsPrinted, IsRefused}
use Rattle.manifest_command.proofs.Printed.{at_known}
use Rattle.manifest_command.proofs.run.canon.Goals as goal

pub returns-clause-ok : goal.returns-clause-ok
returns-clause-ok g c =
    on_ok_weaker _ (at_known (λ bytes. IsPrinted bytes _ _) _ _ _ c.in_ok-bytes.ensures c.as_slice.ensures.value)
    c.print_canonical.ensures.ok

pub returns-clause-refused : goal.returns-clause-refused
returns-clause-refused g c =
    IfErr-weaker c.print_canonical.result _ _ (λ e r. at_known (λ bytes. IsRefused bytes _ _ e) _ _ _
    c.in_ok-bytes.ensures c.as_slice.ensures.value r) c.print_canonical.ensures.refused
