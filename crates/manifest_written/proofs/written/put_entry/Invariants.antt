use Rattle.std.proofs.Common.{◌≡◌, Bor}
use Rattle.manifest_schema.specs.Prelude.{Text}
use Rattle.manifest_written.proofs.PutLemmas.{GoesAfter}
use Rattle.manifest_written.proofs.written.put_entry.Given as goal

-- the entry goes after those so far
abbrev pub invariant-loop-i : goal.invariant-loop-i
invariant-loop-i l = (k : Bor Text) → k.now ≡ l.key → GoesAfter k l.value l.i l.pairs.items l.fn.pairs.items
