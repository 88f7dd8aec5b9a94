use Rattle.manifest_schema.specs.Prelude.{HasWritten, IsPlainFormatter, quoted_byte}
use Rattle.std.proofs.Common.{◌≡◌, ℕ, List, ◌++◌, flat_map}
use Rattle.std.specs.Str.Iter.{chars_rest}
use Rattle.manifest_fault.proofs.path_text.write_quoted.Given as goal

abbrev pub invariant-loop-c : goal.invariant-loop-c
invariant-loop-c g l =
    IsPlainFormatter l.initial.f
    → (done : List ℕ) × HasWritten g.W.Write.write_str_gives l.initial.f done l.f
    × (done ++ flat_map quoted_byte (chars_rest l.c-iterator) ≡ flat_map quoted_byte l.key)
