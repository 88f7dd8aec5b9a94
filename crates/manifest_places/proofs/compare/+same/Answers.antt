use Rattle.std.proofs.Common.{◌≡◌, length, List, [], ◌∷◌, suc, refl, ap, arith}
use Rattle.std.proofs.lemmas.Bool.{false≢true}
use Rattle.toml.specs.View.{items_view}
use Rattle.toml.specs.declared.value.Value.{Value}
use Rattle.manifest_places.proofs.compare.+same.Goals as goal

same_length : (xs ys : List Value) → items_view xs ≡ items_view ys → length xs ≡ length ys
same_length [] [] h = refl
same_length [] (y ∷ ys) h = cc
same_length (x ∷ xs) [] h = cc
same_length (x ∷ xs) (y ∷ ys) h = let tail : items_view xs ≡ items_view ys = cc in ap suc (same_length xs ys tail)

pub same_items-returns-then-a-b : goal.same_items-returns-then-a-b
same_items-returns-then-a-b t c = (
  (λ h. absurd (false≢true h)),
  (λ same. let alike : length c.args.a.now
      ≡ length c.args.b.now = same_length c.args.a.now c.args.b.now same in absurd (omega arith)),
)
