-- What the numbers in several places show.
use Rattle.std.proofs.lemmas.Bool.{cases_Bool}
use Rattle.std.proofs.lemmas.Bool.Decides.{nat_tests}
use Rattle.std.proofs.lemmas.Slice.Eq.{bytes_eq-Decides}
use Rattle.std.specs.Str.{bytes_eq}
use Rattle.std.proofs.Common.{◌≡◌, ℕ, zero, suc, true≢false, ◌==◌, ◌<◌, ◌≢◌, subst, arith, List, [], ◌∷◌, Option, Some, None, option_and_then, refl, sym, ap, ◌∙◌, inl, inr, pos}
use Rattle.std.proofs.lemmas.Option.{none-some, same_Some}
use Rattle.toml.specs.Data.{Data, integer, get, at}
use Rattle.std.specs.Prelude.{neg_ℤ, nat_abs}
use Rattle.manifest_places.specs.Paths.{Text, Step, key, index, Path, document, value_at, Apart}
use Rattle.manifest_places.specs.Changes.{set, changed}
use Rattle.manifest_places.specs.Places.{Place, first_number, number, HaveNumbers, AreRestored, ArePlaces}
use Rattle.manifest_places.specs.Laws.{ApartFromAll, ReadAsValues}
use Rattle.manifest_places.proofs.Kept.{others_are_kept}
use Rattle.manifest_places.proofs.There.{put_is_there}

pub restoring_keeps_others : (text : Text) (n : ℕ) (ps : List Place) (q : Path) (d d' : Data) → ApartFromAll ps q
    → AreRestored text n ps d d' → value_at q d' ≡ value_at q d
restoring_keeps_others text n [] q d d' apart same = ap (value_at q) (sym same)
restoring_keeps_others text n (p ∷ ps) q d d' (apart, others) (x, (e, reads, made), more) =
    restoring_keeps_others text (suc n) ps q x d' others more
    ∙ others_are_kept p.path q (changed (set e)) d x apart made

inside : (o : Option Data) (f g : Data → Option Data) (a b : Data) → option_and_then f o ≡ Some a
    → option_and_then g o ≡ Some b
    → (x : Data) × (f x ≡ Some a) × (g x ≡ Some b)
inside None f g a b h h' = absurd (none-some a h)
inside (Some x) f g a b h h' = (x, h, h')

abs_neg : (n : ℕ) → nat_abs (neg_ℤ (pos n)) ≡ n
abs_neg zero = refl
abs_neg (suc n) = refl

number_of : Option Data → ℕ
number_of (Some (integer z)) = nat_abs z
number_of _ = 0

text_in : Step → Text
text_in (key k) = k
text_in (index i) = []

index_in : Step → ℕ
index_in (key k) = 0
index_in (index i) = suc i

part : (p q : Path) (d : Data) (n m : ℕ) → (n ≡ m → ⊥) → value_at p d ≡ Some (integer (neg_ℤ (pos n)))
    → value_at q d ≡ Some (integer (neg_ℤ (pos m))) → Apart p q
unfolding number_of text_in index_in
part [] [] d n m differ a b = absurd (differ (sym (abs_neg n) ∙ ap number_of (sym a ∙ b) ∙ abs_neg m))
part [] (key k ∷ q) d n m differ a b =
    absurd (none-some (integer (neg_ℤ (pos m)))
    (subst (λ x. value_at (key k ∷ q) x ≡ Some (integer (neg_ℤ (pos m))))
    (same_Some d (integer (neg_ℤ (pos n))) a) b))
part [] (index i ∷ q) d n m differ a b =
    absurd (none-some (integer (neg_ℤ (pos m)))
    (subst (λ x. value_at (index i ∷ q) x ≡ Some (integer (neg_ℤ (pos m))))
    (same_Some d (integer (neg_ℤ (pos n))) a) b))
part (key k ∷ p) [] d n m differ a b =
    absurd (none-some (integer (neg_ℤ (pos n)))
    (subst (λ x. value_at (key k ∷ p) x ≡ Some (integer (neg_ℤ (pos n))))
    (same_Some d (integer (neg_ℤ (pos m))) b) a))
part (index i ∷ p) [] d n m differ a b =
    absurd (none-some (integer (neg_ℤ (pos n)))
    (subst (λ x. value_at (index i ∷ p) x ≡ Some (integer (neg_ℤ (pos n))))
    (same_Some d (integer (neg_ℤ (pos m))) b) a))
part (key k ∷ p) (index j ∷ q) d n m differ a b = inl
    (λ same. let alike : 0 ≡ suc j = ap index_in same in absurd (grind (arith, nat_tests)))
part (index i ∷ p) (key l ∷ q) d n m differ a b = inl
    (λ same. let alike : suc i ≡ 0 = ap index_in same in absurd (grind (arith, nat_tests)))
part (key k ∷ p) (key l ∷ q) d n m differ a b =
    elim (cases_Bool (bytes_eq k l)) [
      | inl equal ↦
          let same : k ≡ l = (bytes_eq-Decides k l).0 equal in
          let b' : option_and_then (value_at q) (get k d)
          ≡ Some (integer (neg_ℤ (pos m))) = subst
          (λ x. option_and_then (value_at q) (get x d) ≡ Some (integer (neg_ℤ (pos m)))) (sym same) b in
          let (x, f, g) = inside (get k d) (value_at p) (value_at q) (integer (neg_ℤ (pos n)))
          (integer (neg_ℤ (pos m))) a b' in
          inr (ap key same, part p q x n m differ f g)
      | inr other ↦ inl (λ same. true≢false (sym ((bytes_eq-Decides k l).1 (ap text_in same)) ∙ other))
    ]
part (index i ∷ p) (index j ∷ q) d n m differ a b =
    elim (cases_Bool (i == j)) [
      | inl equal ↦
          let same : i ≡ j = grind (arith, nat_tests) in
          let b' : option_and_then (value_at q) (at i d)
          ≡ Some (integer (neg_ℤ (pos m))) = subst
          (λ x. option_and_then (value_at q) (at x d) ≡ Some (integer (neg_ℤ (pos m)))) (sym same) b in
          let (x, f, g) = inside (at i d) (value_at p) (value_at q) (integer (neg_ℤ (pos n)))
          (integer (neg_ℤ (pos m))) a b' in
          inr (ap index same, part p q x n m differ f g)
      | inr other ↦ inl (λ same. let alike : suc i ≡ suc j = ap index_in same in absurd (grind (arith, nat_tests)))
    ]

pub places_part : (p q : Path) (d : Data) (n m : ℕ) → n ≢ m → value_at p d ≡ Some (number n)
    → value_at q d ≡ Some (number m) → Apart p q
places_part p q d n m differ = part p q d n m differ

-- a place with an earlier number parts from all with later ones
later_part : (ps : List Place) (q : Path) (d : Data) (n m : ℕ) → m < n → value_at q d ≡ Some (number m)
    → HaveNumbers d n ps → ApartFromAll ps q
later_part [] q d n m less there have = tt
later_part (p ∷ ps) q d n m less there (is, more) = (
  part p.path q d n m (λ same. absurd (omega arith)) is there,
  later_part ps q d (suc n) m (omega arith) there more,
)

values_there : (text : Text) (n : ℕ) (ps : List Place) (new d d' : Data) → HaveNumbers new n ps
    → AreRestored text n ps d d' → ReadAsValues text d' ps
values_there text n [] new d d' have restored = tt
values_there text n (p ∷ ps) new d d' (is, more) (x, (e, (range, reads, differ), made), restored) = (
  restoring_keeps_others text (suc n) ps p.path x d' (later_part ps p.path new (suc n) n (omega arith) is more) restored
      ∙ put_is_there p.path e d x made ∙ sym reads,
  values_there text (suc n) ps new x d' more restored,
)

pub places_have_values : (text : Text) (ps : List Place) (d : Data) → ArePlaces text ps → document text ≡ Some d
    → ReadAsValues text d ps
places_have_values text ps d are is =
    subst (λ x. ReadAsValues text x ps) (same_Some are.old d (sym are.is_document ∙ is))
    (values_there text first_number ps are.new are.new are.old are.numbered are.restored)
