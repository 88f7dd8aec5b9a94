-- What the contracts of writers say again and again.
use Rattle.std.specs.Prelude.{List, Result, OnOk, IsTrue}
use Rattle.std.specs.Borrow.{Bor}
use Rattle.manifest_schema.specs.Prelude.{Text, AllocError}
use Rattle.manifest_written.specs.Written.{pairs_ascend}
use Rattle.manifest_written.specs.declared.written.Written.{Written}

-- entries whose keys ascend, and those inside their values, are still such after the call, if it is Ok
abbrev pub KeepsAscending :
    List (Bor Text × Written) → List (Bor Text × Written) → Result (Unit {0}) AllocError → Type 0
KeepsAscending old new result = IsTrue (pairs_ascend old) → OnOk result (IsTrue (pairs_ascend new))
