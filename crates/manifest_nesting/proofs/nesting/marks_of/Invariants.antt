use Rattle.std.proofs.Common.{◌≡◌, take}
use Rattle.std.specs.List.{count_by}
use Rattle.manifest_nesting.specs.Nesting.{is_mark}
use Rattle.manifest_nesting.proofs.nesting.marks_of.Given as goal

-- the marks so far
abbrev pub invariant-loop-byte : goal.invariant-loop-byte
invariant-loop-byte l = l.marks ≡ count_by is_mark (take l.byte-index l.piece)
