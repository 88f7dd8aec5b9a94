-- What the words are taken for is what they ask for, and nothing else.
use Rattle.manifest_schema.specs.Prelude.{Global, Text}
use Rattle.std.proofs.Common.{◌≡◌, ℕ, List, [], ◌∷◌, Option, Some, None, ◌∙◌, sym, ap, subst, refl, length, get_or, arith}
use Rattle.std.specs.Prelude.{String, string_bytes, codes}
use Rattle.manifest_command.specs.declared.words.Request.{Request}
use Rattle.manifest_command.specs.declared.words.Request.TheVariants.{CanonInput, CanonFile, CompleteFile, CompleteMember}
use Rattle.manifest_command.specs.Run.{IsCanonInput, Asked, canon_file, complete_file, complete_member, Asks, AreWrong, MayPrint, PrintsOne, BeginsOne}
use Rattle.manifest_command.specs.Words.{AskFor, IsRequestOf, AskForMember, IsFourOf, Serves, Fails}

-- what words there can be
abbrev canon_words : Text → List Text
canon_words f = codes "canon" ∷ f ∷ []

abbrev complete_words : Text → List Text
complete_words f = codes "complete" ∷ f ∷ []

abbrev member_words : Text → Text → List Text
member_words f r = codes "complete" ∷ f ∷ codes "--workspace" ∷ r ∷ []

-- they differ, by the first of them or by how many they are
verbs_differ : (f g : Text) → canon_words f ≡ complete_words g → ⊥
verbs_differ f g e =
    let lengths : ◌≡◌ {A = ℕ} 5 8 = ap (λ ws. length (get_or ws 0 [])) e in omega (arith, lengths)

canon_is_no_member : (f g r : Text) → canon_words f ≡ member_words g r → ⊥
canon_is_no_member f g r e =
    let lengths : ◌≡◌ {A = ℕ} 2 4 = ap length e in omega (arith, lengths)

complete_is_no_member : (f g r : Text) → complete_words f ≡ member_words g r → ⊥
complete_is_no_member f g r e =
    let lengths : ◌≡◌ {A = ℕ} 2 4 = ap length e in omega (arith, lengths)

-- words that ask for a file ask for one thing
files_differ : (a b : Asked) (ws : List (String Global)) → Asks a ws → Asks b ws → a ≡ b
files_differ canon_file canon_file ws p q = refl
files_differ canon_file complete_file ws (f, e, _) (g, h, _) = absurd (verbs_differ f g (sym e ∙ h))
files_differ canon_file complete_member ws (f, e, _) (g, r, h, _, _) = absurd (canon_is_no_member f g r (sym e ∙ h))
files_differ complete_file canon_file ws (f, e, _) (g, h, _) = absurd (verbs_differ g f (sym h ∙ e))
files_differ complete_file complete_file ws p q = refl
files_differ complete_file complete_member ws (f, e, _) (g, r, h, _, _) =
    absurd (complete_is_no_member f g r (sym e ∙ h))
files_differ complete_member canon_file ws (f, r, e, _, _) (g, h, _) = absurd (canon_is_no_member g f r (sym h ∙ e))
files_differ complete_member complete_file ws (f, r, e, _, _) (g, h, _) =
    absurd (complete_is_no_member g f r (sym h ∙ e))
files_differ complete_member complete_member ws p q = refl

-- words that ask for standard input ask for no file
dash_is_no_file : (v w verb file : Text) → v ∷ w ∷ [] ≡ verb ∷ file ∷ [] → w ≡ codes "-" → file ≡ codes "-"
dash_is_no_file v w verb file e dash = sym (ap (λ ws. get_or ws 1 []) e) ∙ dash

nothing_is_no_file : (first : Text) (ws : List Text) → [] ≡ first ∷ ws → ⊥
nothing_is_no_file first ws e = let lengths : 0 ≡ length (first ∷ ws) = ap length e in omega (arith, lengths)

two_are_no_member : (v w f r : Text) → v ∷ w ∷ [] ≡ member_words f r → ⊥
two_are_no_member v w f r e =
    let lengths : ◌≡◌ {A = ℕ} 2 4 = ap length e in omega (arith, lengths)

input_no_file : (a : Asked) (ws : List (String Global)) → IsCanonInput ws → Asks a ws → ⊥
input_no_file canon_file [] i (f, e, is_file) = nothing_is_no_file _ _ e
input_no_file complete_file [] i (f, e, is_file) = nothing_is_no_file _ _ e
input_no_file complete_member [] i (f, r, e, f_is, r_is) = nothing_is_no_file _ _ e
input_no_file canon_file (v ∷ w ∷ []) i (f, e, is_file) = is_file (dash_is_no_file _ _ _ f e i.1)
input_no_file complete_file (v ∷ w ∷ []) i (f, e, is_file) = is_file (dash_is_no_file _ _ _ f e i.1)
input_no_file complete_member (v ∷ w ∷ []) i (f, r, e, f_is, r_is) = two_are_no_member _ _ f r e
input_no_file a (v ∷ []) i q = absurd i
input_no_file a (v ∷ w ∷ x ∷ ws) i q = absurd i

-- words ask for one thing
pub one_asked : (a b : Option Asked) (ws : List (String Global)) → AskFor a ws → AskFor b ws → a ≡ b
one_asked None None ws p q = refl
one_asked None (Some b) ws p q = absurd (input_no_file b ws p q)
one_asked (Some a) None ws p q = absurd (input_no_file a ws q p)
one_asked (Some a) (Some b) ws p q = ap Some (files_differ a b ws p q)

-- four words are taken for a member where they ask for one, and else are wrong
member_asked : (v f o r : Text) → AskForMember v f o r → v ∷ f ∷ o ∷ r ∷ [] ≡ member_words f r
member_asked v f o r m = ap (λ x. x ∷ f ∷ o ∷ r ∷ []) m.verb_is ∙ ap (λ x. codes "complete" ∷ f ∷ x ∷ r ∷ [])
    m.option_is

four_ask : (v f o r : String Global) (a : Asked) → Asks a (v ∷ f ∷ o ∷ r ∷ []) → AskForMember (string_bytes v)
    (string_bytes f) (string_bytes o) (string_bytes r)
four_ask v f o r canon_file (g, e, is_file) =
    let lengths : ◌≡◌ {A = ℕ} 4 2 = ap length e in absurd (omega (arith, lengths))
four_ask v f o r complete_file (g, e, is_file) =
    let lengths : ◌≡◌ {A = ℕ} 4 2 = ap length e in absurd (omega (arith, lengths))
four_ask v f o r complete_member (g, s, e, g_is, s_is) = record {
  verb_is = ap (λ ws. get_or ws 0 []) e;
  file_is = λ dash. g_is (sym (ap (λ ws. get_or ws 1 []) e) ∙ dash);
  option_is = ap (λ ws. get_or ws 2 []) e;
  root_is = λ dash. s_is (sym (ap (λ ws. get_or ws 3 []) e) ∙ dash);
}

pub four_taken : (v f o r : String Global) (x : Option Request) → IsFourOf (string_bytes v) (string_bytes f)
    (string_bytes o) (string_bytes r) x → IsRequestOf (v ∷ f ∷ o ∷ r ∷ []) x
four_taken v f o r (Some CanonInput) p = absurd p
four_taken v f o r (Some (CanonFile g)) p = absurd p
four_taken v f o r (Some (CompleteFile g)) p = absurd p
four_taken v f o r (Some (CompleteMember g s)) m = (
  string_bytes f,
  string_bytes r,
  member_asked _ _ _ _ m,
  m.file_is,
  m.root_is,
)
four_taken v f o r None not = ((λ i. i), λ a q. not (four_ask v f o r a q))

pub served_file : (b : Option Asked) (a : Asked) (ws : List (String Global)) (known old new : Option (List ℕ))
    → AskFor b ws → Asks a ws → Serves b known old new → PrintsOne (MayPrint a) old new
served_file b a ws known old new q asks s = subst (λ x. Serves x known old new) (one_asked b (Some a) ws q asks) s

pub failed_file : (b : Option Asked) (a : Asked) (ws : List (String Global)) (known old new : Option (List ℕ))
    → AskFor b ws → Asks a ws → Fails b known old new → BeginsOne (MayPrint a) old new
failed_file b a ws known old new q asks s = subst (λ x. Fails x known old new) (one_asked b (Some a) ws q asks) s

-- words that ask for something are not wrong
pub not_wrong : (b : Option Asked) (ws : List (String Global)) → AskFor b ws → AreWrong ws → ⊥
not_wrong None ws q wrong = wrong.0 q
not_wrong (Some a) ws q wrong = wrong.1 a q
