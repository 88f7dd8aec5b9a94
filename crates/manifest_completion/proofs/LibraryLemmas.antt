-- `-` replaced by `_`.
use Rattle.manifest_schema.specs.Prelude.{take-append-drop, nat_tests, underscored}
use Rattle.std.proofs.Common.{◌≡◌, ℕ, zero, suc, ◌+◌, ◌<◌, List, [], ◌∷◌, ◌++◌, false, refl, ap, sym, ◌∙◌, take, drop, length, get_or, arith, nat_eq, if◌then◌else◌, ◌≢◌, ⊎_elim}
use Rattle.std.specs.Str.{NoCharPasses}
use Rattle.std.specs.Str.Pattern.{FindsChar}
use Rattle.std.specs.Str.Replace.{ReplacesMatches}
use Rattle.std.proofs.lemmas.Str.Pattern.{NoCharPasses-char, drop_at_char}

-- no `-`, no change
same : (xs : List ℕ) → ((i : ℕ) → i < length xs → get_or xs i 0 ≢ 45) → underscored xs ≡ xs
same [] h = refl
same (x ∷ xs) h =
    let other : nat_eq x 45 ≡ false = ne_false x (h 0 (omega arith)) in
    rw other (ap (λ (ys : List ℕ). x ∷ ys) (same xs (λ i l. h (suc i) (omega arith))))
  where
    ne_false : (x' : ℕ) → x' ≢ 45 → nat_eq x' 45 ≡ false
    ne_false x' ne = grind (arith, nat_tests)

unchanged : (s : List ℕ) → NoCharPasses (λ d. nat_eq d 45) s → underscored s ≡ s
unchanged s h = same s (λ i l. NoCharPasses-char 45 s i h (omega arith) l)

underscored_append : (xs ys : List ℕ) → underscored (xs ++ ys) ≡ underscored xs ++ underscored ys
underscored_append [] ys = refl
underscored_append (x ∷ xs) ys = ap (λ (zs : List ℕ). (if nat_eq x 45 then 95 else x) ∷ zs) (underscored_append xs ys)

-- what `replace('-', "_")` gives
pub underscored_is : (n : ℕ) (s out : List ℕ) → ReplacesMatches FindsChar (λ p q. q ≡ p) (95 ∷ []) n 45 s out
    → out ≡ underscored s
underscored_is zero s out h = h.1 ∙ sym (unchanged s h.0)
underscored_is (suc n) s out (a, b, q, rest, found, kept, goes, made) =
    let split : drop a s ≡ 45 ∷ drop b s = drop_at_char 45 s a b found.1 (omega arith) in
    let whole : s ≡ take a s ++ 45 ∷ drop b s = sym (take-append-drop a s) ∙ ap (λ (xs : List ℕ). take a s ++ xs)
    split in
    let front : underscored (take a s) ≡ take a s = unchanged (take a s) found.0 in
    let apart : b ≡ a + 1 = found.1.ends in
    let back : rest ≡ underscored (drop b s) = ⊎_elim (λ g. underscored_is n (drop b s) rest (rw kept at g.1))
    (λ g. absurd (omega (arith, g.0, apart))) goes in
    let spread : underscored s ≡ take a s ++ 95 ∷ underscored (drop b s) = ap underscored whole
    ∙ underscored_append (take a s) (45 ∷ drop b s) ∙ ap (λ (xs : List ℕ). xs ++ 95 ∷ underscored (drop b s))
    front in
    made ∙ ap (λ (xs : List ℕ). take a s ++ 95 ∷ xs) back ∙ sym spread
