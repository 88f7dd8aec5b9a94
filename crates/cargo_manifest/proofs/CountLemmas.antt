-- A writer that counts.
use Rattle.std.proofs.Common.{◌≡◌, ℕ, ◌+◌, List, [], ◌∷◌, length, length-append, ap, arith}
use Rattle.std.specs.Fmt.{WritesInCalls}
use Rattle.std.specs.List.{FoldsTo, concat}

-- what each call adds to the count
abbrev Counts : {W : Type 0} → (W → ℕ) → (W → List ℕ → W → Type 0) → Type 0
Counts {W} count took = (w : W) (text : List ℕ) (v : W) → took w text v → count v ≡ count w + length text

-- after some calls it has grown by all that they wrote
counted_parts : {W : Type 0} (count : W → ℕ) (took : W → List ℕ → W → Type 0) → Counts count took
    → (w : W) (parts : List (List ℕ)) (v : W) → FoldsTo took w parts v → count v ≡ count w + length (concat parts)
counted_parts count took adds w [] v e = omega (arith, ap count e)
counted_parts count took adds w (x ∷ parts) v (j, one, more) =
    simp length-append (omega (arith, adds w x j one, counted_parts count took adds j parts v more))

pub counted : {W : Type 0} (count : W → ℕ) (took : W → List ℕ → W → Type 0) → Counts count took
    → (w : W) (text : List ℕ) (v : W) → WritesInCalls took w text v → count v ≡ count w + length text
counted count took adds w text v h =
    omega (arith, counted_parts count took adds w h.parts v h.calls, ap length h.whole)
