-- That what is written into the page has no `<`: only the character `<` has such a byte, and it is written by its escape.
use Rattle.std.proofs.Common.{rules, ◌≡◌, ℕ, List, [], ◌∷◌, ◌++◌, sym, ap₂, subst, refl, ◌∙◌, inl, inr, arith, append-nil}
use Rattle.std.proofs.lemmas.Bool.{cases_eq}
use Rattle.std.proofs.lemmas.Bool.Decides.{nat_tests}
use Rattle.std.specs.Prelude.{◌≢◌}
use Rattle.std.proofs.lemmas.Str.{inside_one}
use Rattle.std.proofs.lemmas.List.Elements.{All-nil, All-cons, All-head, All-tail, All-append, All-from_get_or}
use Rattle.std.specs.Char.{encode_utf8}
use Rattle.manifest_page.specs.Page.{harmless, harmless_byte, HasNoTag}

abbrev other : ℕ → Type 0
other b = b ≢ 60

no_tag : (c : ℕ) → c ≢ 60 → HasNoTag (encode_utf8 c)
no_tag c h = All-from_get_or other (encode_utf8 c) 0
    (λ k below e. h (inside_one c [] (encode_utf8 c) k (sym (append-nil _)) below (omega arith) ∙ e))

plain : (b : ℕ) → b ≢ 60 → harmless_byte b ≡ b ∷ []
plain b h = grind (arith, nat_tests)

kept : (bytes : List ℕ) → HasNoTag bytes → harmless bytes ≡ bytes
kept [] h = refl
kept (b ∷ bytes) h = ap₂ (λ (x y : List ℕ). x ++ y) (plain b (All-head other b bytes h)) (kept bytes (All-tail other b bytes h))

pub harmless_char : (c : ℕ) → c ≢ 60 → harmless (encode_utf8 c) ≡ encode_utf8 c
harmless_char c h = kept (encode_utf8 c) (no_tag c h)

escape : HasNoTag (harmless_byte 60)
escape = search rules

byte : (b : ℕ) → HasNoTag (harmless_byte b)
byte b = elim (cases_eq b 60) [
  | inl e ↦ subst (λ x. HasNoTag (harmless_byte x)) (sym e) escape
  | inr h ↦ subst HasNoTag (sym (plain b h)) (All-cons other b [] h (All-nil other))
]

pub has_no_tag : (bytes : List ℕ) → HasNoTag (harmless bytes)
has_no_tag [] = All-nil other
has_no_tag (b ∷ bytes) = All-append other (harmless_byte b) (harmless bytes) (byte b) (has_no_tag bytes)
