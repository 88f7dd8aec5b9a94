use Rattle.std.proofs.Common.{◌≡◌, ℕ, ◌+◌, ◌*◌, ◌^◌, ◌<◌, ◌≤◌, length, List, Option, Some}
use Rattle.manifest_bytes.specs.Numbers.{number_bytes, take_number}
use Rattle.manifest_bytes.specs.Read.{Reads}
use Rattle.manifest_bytes.proofs.NumberLemmas.{ReadsAbove}
use Rattle.manifest_bytes.proofs.reading.Reader.number.Given as goal

abbrev pub decreases-loop-byte : goal.decreases-loop-byte
decreases-loop-byte l = length l.self.left.now

-- what is read of what is left, above the number so far, is what is read of the whole
abbrev pub invariant-loop-byte : goal.invariant-loop-byte
invariant-loop-byte l = record {
  reads : (result : Option ℕ) (new : List ℕ) → ReadsAbove l.number l.unit l.self.left.now result new →
      Reads (λ n. n < 2 ^ 64) number_bytes l.fn.self.left.now result new;
  held : (n : ℕ) (rest : List ℕ) → take_number l.self.left.now ≡ Some (n, rest) →
      take_number l.fn.self.left.now ≡ Some (l.number + l.unit * n, rest);
  fewer : length l.self.left.now ≤ length l.fn.self.left.now;
}
