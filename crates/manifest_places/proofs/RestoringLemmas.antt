-- What is restored at one place, and at several.
use Rattle.std.proofs.Common.{◌≡◌, ◌↔◌, ℕ, suc, List, ◌∷◌, Option, Some, None, sym, subst, ◌∙◌}
use Rattle.std.proofs.lemmas.Option.{none-some, same_Some}
use Rattle.toml.specs.Data.{Data}
use Rattle.manifest_places.specs.Paths.{Text}
use Rattle.manifest_places.specs.Changes.{set, with_change}
use Rattle.manifest_places.specs.Places.{Place, ReadsAs, IsRestored, AreRestored}

pub nothing_read : (text : Text) (n : ℕ) (p : Place) (d : Data) (read : Option Data)
    → ((e : Data) → (read ≡ Some e) ↔ ReadsAs text n p e) → read ≡ None
    → (x : Data) → (None ≡ Some x) ↔ IsRestored text n p d x
nothing_read text n p d read reads none x = (
  (λ h. absurd (none-some x h)),
  (λ (e, is, made). absurd (none-some e (sym none ∙ (reads e).1 is))),
)

pub one_read : (text : Text) (n : ℕ) (p : Place) (d e : Data) (read made : Option Data)
    → ((f : Data) → (read ≡ Some f) ↔ ReadsAs text n p f) → read ≡ Some e → made ≡ with_change p.path (set e) d
    → (x : Data) → (made ≡ Some x) ↔ IsRestored text n p d x
one_read text n p d e read made reads some is x = (
  (λ h. (e, (reads e).0 some, sym is ∙ h)),
  (λ (f, reads_f, makes). is
      ∙ subst (λ y. with_change p.path (set y) d ≡ Some x) (sym (same_Some e f (sym some ∙ (reads f).1 reads_f))) makes),
)

pub none_restored : (text : Text) (n : ℕ) (p : Place) (ps : List Place) (d : Data) (made : Option Data)
    → ((x : Data) → (made ≡ Some x) ↔ IsRestored text n p d x) → made ≡ None
    → (x : Data) → AreRestored text n (p ∷ ps) d x → (None ≡ Some x)
none_restored text n p ps d made one none x (y, is, more) = absurd (none-some y (sym none ∙ (one y).1 is))

pub one_restored : (text : Text) (n m : ℕ) (p : Place) (ps : List Place) (d y : Data) (made : Option Data) → m ≡ suc n
    → ((x : Data) → (made ≡ Some x) ↔ IsRestored text n p d x) → made ≡ Some y
    → (x : Data) → AreRestored text m ps y x ↔ AreRestored text n (p ∷ ps) d x
one_restored text n m p ps d y made next one some x = (
  (λ more. (y, (one y).0 some, subst (λ k. AreRestored text k ps y x) next more)),
  (λ (z, is, more). subst (λ k. AreRestored text k ps y x) (sym next)
      (subst (λ w. AreRestored text (suc n) ps w x) (sym (same_Some y z (sym some ∙ (one z).1 is))) more)),
)
