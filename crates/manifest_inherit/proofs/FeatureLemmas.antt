-- Features that are added one after the other.
use Rattle.manifest_schema.specs.Prelude.{Bor, list_any, bytes_eq, Text}
use Rattle.std.proofs.Common.{◌≡◌, true, false, List, [], ◌∷◌, ◌++◌, refl, ap}
use Rattle.manifest_completion.specs.Targets.{has_path}
use Rattle.manifest_completion.specs.Index.{SamePaths}
use Rattle.manifest_completion.proofs.IndexLemmas.{bytes_eq-sym, same_append}
use Rattle.manifest_inherit.specs.Resolved.{new_features}
use Rattle.manifest_inherit.specs.ForProofs.{borrowed_texts}

-- a text is among some, whichever is compared with the other
pub any_same : (hs : List Text) (f : Text) → list_any (λ h. bytes_eq h f) hs ≡ has_path hs f
any_same [] f = refl
any_same (h ∷ hs) f = rw (bytes_eq-sym h f, any_same hs f) refl

-- what is new depends only on which features are there
pub same_new : (hs ks fs : List Text) → SamePaths hs ks → new_features hs fs ≡ new_features ks fs
same_new hs ks [] same = refl
same_new hs ks (f ∷ fs) same =
    let had = same_new hs ks fs same in
    let added = same_new (hs ++ f ∷ []) (ks ++ f ∷ []) fs (same_append hs ks (f ∷ []) same) in
    rw (any_same hs f, any_same ks f, same f, had, added) refl

-- a feature that is there adds nothing
pub feature_had : (had fs : List Text) (f : Text) → has_path had f ≡ true → new_features had (f ∷ fs) ≡ new_features had
    fs
feature_had had fs f h = rw (any_same had f, h) refl

-- any other one is new, and is there then
pub feature_new : (had now fs : List Text) (f : Text) → has_path had f ≡ false → SamePaths now (had ++ f ∷ [])
    → new_features had (f ∷ fs) ≡ f ∷ new_features now fs
feature_new had now fs f h same = rw (any_same had f, h, same_new now (had ++ f ∷ []) fs same) refl

-- one more borrowed text
pub borrowed_push : (xs : List (Bor Text)) (x : Bor Text) (rest : List Text) → borrowed_texts (xs ++ x ∷ [])
    ++ rest ≡ borrowed_texts xs ++ (x.now ∷ rest)
borrowed_push [] x rest = refl
borrowed_push (y ∷ xs) x rest = ap (λ ts. y.now ∷ ts) (borrowed_push xs x rest)
