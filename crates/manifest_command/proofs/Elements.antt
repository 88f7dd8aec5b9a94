use Rattle.std.proofs.Common.{◌≡◌, ◌<◌, ◌≤◌, List, [], ◌∷◌, length, get_or, arith}

-- a list of four elements, by its elements
pub four_elements : {A : Type 0} (xs : List A) (a b c d : A) → 4 ≤ length xs → length xs < 5 → a ≡ get_or xs 0 a
    → b ≡ get_or xs 1 b → c ≡ get_or xs 2 c → d ≡ get_or xs 3 d → xs ≡ a ∷ b ∷ c ∷ d ∷ []
four_elements [] a b c d low high p q r s = absurd (omega arith)
four_elements (x ∷ []) a b c d low high p q r s = absurd (omega arith)
four_elements (x ∷ y ∷ []) a b c d low high p q r s = absurd (omega arith)
four_elements (x ∷ y ∷ z ∷ []) a b c d low high p q r s = absurd (omega arith)
four_elements (x ∷ y ∷ z ∷ w ∷ []) a b c d low high p q r s = cc
four_elements (x ∷ y ∷ z ∷ w ∷ v ∷ xs) a b c d low high p q r s = absurd (omega arith)
