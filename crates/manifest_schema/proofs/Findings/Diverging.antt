-- What is found in a value stands at paths that diverge, by each kind and need.
use Rattle.manifest_schema.specs.Prelude.{Data, Members, no_members, member, is_sorted, Text, Path, Step, key, index, has_entry, entry_findings}
use Rattle.std.proofs.Common.{◌≡◌, ℕ, suc, ◌≤◌, true, inl, inr, List, [], ◌∷◌, ◌++◌, refl, sym, ap, subst, arith}
use Rattle.manifest_schema.specs.Findings.{Finding, fault, ignored, unused, found_under, unused_keys, leniently, found_at, found_paths, Diverge, DivergeFrom, AllDiverge, AllBegin}
use Rattle.manifest_schema.proofs.Tables.LeftOutLaws.{InOrder}

-- PATHS
same_first : {s t : Step} {p q : Path} → s ∷ p ≡ t ∷ q → s ≡ t
same_first e = cc

same_rest : {s t : Step} {p q : Path} → s ∷ p ≡ t ∷ q → p ≡ q
same_rest e = cc

by_first : (s t : Step) (p q : Path) → (s ≡ t → ⊥) → Diverge (s ∷ p) (t ∷ q)
by_first s t p q other r = (λ e. other (same_first e), λ e. other (sym (same_first e)))

by_rest : (s : Step) (p q : Path) → Diverge p q → Diverge (s ∷ p) (s ∷ q)
by_rest s p q h r = (λ e. (h r).0 (same_rest e), λ e. (h r).1 (same_rest e))

-- LISTS OF PATHS
abbrev pub Apart : (Step → Type 0) → (Step → Type 0) → Type 0
Apart P Q = (s : Step) → P s → Q s → ⊥

pub begin_weaker : {P Q : Step → Type 0} (ps : List Path) → ((s : Step) → P s → Q s) → AllBegin P ps → AllBegin Q ps
begin_weaker [] f h = tt
begin_weaker ([] ∷ ps) f h = absurd h
begin_weaker ((s ∷ p) ∷ ps) f h = (f s h.0, begin_weaker ps f h.1)

pub begin_with : (P Q : Step → Type 0) (ps : List Path) → AllBegin P ps → AllBegin Q ps → AllBegin (λ s. P s × Q s) ps
begin_with P Q [] a b = tt
begin_with P Q ([] ∷ ps) a b = absurd a
begin_with P Q ((s ∷ p) ∷ ps) a b = ((a.0, b.0), begin_with P Q ps a.1 b.1)

begin_append : (P : Step → Type 0) (ps qs : List Path) → AllBegin P ps → AllBegin P qs → AllBegin P (ps ++ qs)
begin_append P [] qs a b = b
begin_append P ([] ∷ ps) qs a b = absurd a
begin_append P ((s ∷ p) ∷ ps) qs a b = (a.0, begin_append P ps qs a.1 b)

from_others : (Q : Step → Type 0) (s : Step) (p : Path) (qs : List Path) → AllBegin Q qs → (Q s → ⊥)
    → DivergeFrom qs (s ∷ p)
from_others Q s p [] b none = tt
from_others Q s p ([] ∷ qs) b none = absurd b
from_others Q s p ((t ∷ q) ∷ qs) b none = (
  by_first s t p q (λ e. none (subst Q (sym e) b.0)),
  from_others Q s p qs b.1
      none,
)

from_append : (p : Path) (ps qs : List Path) → DivergeFrom ps p → DivergeFrom qs p → DivergeFrom (ps ++ qs) p
from_append p [] qs a b = b
from_append p (q ∷ ps) qs a b = (a.0, from_append p ps qs a.1 b)

diverge_append : {P Q : Step → Type 0} (ps qs : List Path) → Apart P Q → AllBegin P ps → AllBegin Q qs → AllDiverge ps
    → AllDiverge qs → AllDiverge (ps ++ qs)
diverge_append [] qs x a b c d = d
diverge_append ([] ∷ ps) qs x a b c d = absurd a
diverge_append {Q = Q} ((s ∷ p) ∷ ps) qs x a b c d = (
  from_append (s ∷ p) ps qs c.0 (from_others Q s p qs b (x s a.0)),
  diverge_append ps qs x a.1 b c.1 d,
)

-- the paths with a step before them
abbrev after : Step → List Path → List Path
after s [] = []
after s (p ∷ ps) = (s ∷ p) ∷ after s ps

after_begin : (s : Step) (ps : List Path) → AllBegin (λ t. t ≡ s) (after s ps)
after_begin s [] = tt
after_begin s (p ∷ ps) = (refl, after_begin s ps)

after_from : (s : Step) (p : Path) (ps : List Path) → DivergeFrom ps p → DivergeFrom (after s ps) (s ∷ p)
after_from s p [] h = tt
after_from s p (q ∷ ps) h = (by_rest s p q h.0, after_from s p ps h.1)

after_diverge : (s : Step) (ps : List Path) → AllDiverge ps → AllDiverge (after s ps)
after_diverge s [] h = tt
after_diverge s (p ∷ ps) h = (after_from s p ps h.0, after_diverge s ps h.1)

-- THE PATHS OF FINDINGS
paths-append : (fs gs : List Finding) → found_paths (fs ++ gs) ≡ found_paths fs ++ found_paths gs
paths-append [] gs = refl
paths-append (f ∷ fs) gs = ap (λ ps. found_at f ∷ ps) (paths-append fs gs)

paths-under : (s : Step) (fs : List Finding) → found_paths (found_under s fs) ≡ after s (found_paths fs)
paths-under s [] = refl
paths-under s (fault p c ws ∷ fs) = ap (λ ps. (s ∷ p) ∷ ps) (paths-under s fs)
paths-under s (ignored p c ws ∷ fs) = ap (λ ps. (s ∷ p) ∷ ps) (paths-under s fs)
paths-under s (unused p ∷ fs) = ap (λ ps. (s ∷ p) ∷ ps) (paths-under s fs)

pub paths-lenient : (fs : List Finding) → found_paths (leniently fs) ≡ found_paths fs
paths-lenient [] = refl
paths-lenient (fault p c ws ∷ fs) = ap (λ ps. p ∷ ps) (paths-lenient fs)
paths-lenient (ignored p c ws ∷ fs) = ap (λ ps. p ∷ ps) (paths-lenient fs)
paths-lenient (unused p ∷ fs) = ap (λ ps. p ∷ ps) (paths-lenient fs)

-- the findings stand at paths that diverge, and that begin with steps of which P holds
pub record DivergingBy (P : Step → Type 0) (fs : List Finding) : Type 0 where
  pub begin : AllBegin P (found_paths fs)
  pub diverge : AllDiverge (found_paths fs)

pub none_diverging : {P : Step → Type 0} → DivergingBy P []
none_diverging = record { begin = tt; diverge = tt }

pub under_begin : (s : Step) (fs : List Finding) → AllBegin (λ t. t ≡ s) (found_paths (found_under s fs))
under_begin s fs = rw (paths-under s fs) (after_begin s (found_paths fs))

pub under_diverging : (s : Step) (fs : List Finding) → AllDiverge (found_paths fs) → DivergingBy (λ t. t ≡ s)
    (found_under s fs)
under_diverging s fs h = record {
  begin = under_begin s fs;
  diverge = rw (paths-under s fs)
      (after_diverge s (found_paths fs) h);
}

pub begin_both : (P : Step → Type 0) (fs gs : List Finding) → AllBegin P (found_paths fs) → AllBegin P (found_paths gs)
    → AllBegin P (found_paths (fs ++ gs))
begin_both P fs gs a b = rw (paths-append fs gs) (begin_append P (found_paths fs) (found_paths gs) a b)

pub weaker_diverging : {P Q : Step → Type 0} {fs : List Finding} → ((s : Step) → P s → Q s) → DivergingBy P fs
    → DivergingBy Q fs
weaker_diverging {fs = fs} f h = record { begin = begin_weaker (found_paths fs) f h.begin; diverge = h.diverge }

pub both_diverging : {P Q R : Step → Type 0} {fs gs : List Finding} → DivergingBy P fs → DivergingBy Q gs
    → ((s : Step) → P s → R s) → ((s : Step) → Q s → R s) → Apart P Q → DivergingBy R (fs ++ gs)
both_diverging {R = R} {fs = fs} {gs = gs} a b f g x =
    let ps = found_paths fs in
    let qs = found_paths gs in
    record {
      begin = begin_both R fs gs (begin_weaker ps f a.begin) (begin_weaker qs g b.begin);
      diverge =
          rw (paths-append fs gs) (diverge_append ps qs x a.begin b.begin a.diverge b.diverge);
    }

-- ITEMS AND ENTRIES
abbrev pub IndexFrom : ℕ → Step → Type 0
IndexFrom i (index j) = i ≤ j
IndexFrom i (key k) = ⊥

pub item_diverging : (i : ℕ) (fs : List Finding) {gs : List Finding} → AllDiverge (found_paths fs)
    → DivergingBy (IndexFrom (suc i)) gs → DivergingBy (IndexFrom i) (found_under (index i) fs ++ gs)
item_diverging i fs h rest = both_diverging (under_diverging (index i) fs h) rest (λ s e. rw e (omega arith))
    (elim [ index j ↦ λ h. omega (arith, h) | key k ↦ λ h. h ])
    (λ s e h. let late : suc i ≤ i = subst (IndexFrom (suc i)) e h in absurd (omega arith))

-- a key of which P holds
abbrev pub KeyOf : (Text → Type 0) → Step → Type 0
KeyOf P (key k) = P k
KeyOf P (index i) = ⊥

pub key_weaker : {P Q : Text → Type 0} → ((k : Text) → P k → Q k) → (s : Step) → KeyOf P s → KeyOf Q s
key_weaker f (key k) h = f k h
key_weaker f (index i) h = h

pub key_apart : {P Q : Text → Type 0} → ((k : Text) → P k → Q k → ⊥) → Apart (KeyOf P) (KeyOf Q)
key_apart x (key k) a b = x k a b
key_apart x (index i) a b = a

abbrev pub HasKey : Members → Text → Type 0
HasKey ms k = (d : Data) × has_entry k d ms

pub entry_diverging : (k : Text) (d : Data) (ms : Members) (fs : List Finding) {gs : List Finding}
    → ((e : Data) → has_entry k e ms → ⊥) → AllDiverge (found_paths fs) → DivergingBy (KeyOf (HasKey ms)) gs
    → DivergingBy (KeyOf (HasKey (member k d ms))) (found_under (key k) fs ++ gs)
entry_diverging k d ms fs none h rest = both_diverging (under_diverging (key k) fs h) rest
    (λ s e. rw e (d, inl (refl, refl))) (key_weaker (λ k h. (h.0, inr h.1)))
    (λ s e h. let there : HasKey ms k = subst (KeyOf (HasKey ms)) e h in none there.0 there.1)

pub entries_diverging : (find : Data → List Finding) → ((d : Data) → is_sorted d ≡ true
    → AllDiverge (found_paths (find d))) → (ms : Members) → InOrder ms → DivergingBy (KeyOf (HasKey ms))
    (entry_findings find ms)
entries_diverging find each no_members s = none_diverging
entries_diverging find each (member k d ms) s = entry_diverging k d ms (find d) s.0 (each d s.1)
    (entries_diverging find each ms s.2)

keys-found : (ms : Members) → unused_keys ms ≡ entry_findings (λ d. unused [] ∷ []) ms
keys-found no_members = refl
keys-found (member k d ms) = ap (λ fs. unused (key k ∷ []) ∷ fs) (keys-found ms)

pub keys_diverging : (ms : Members) → InOrder ms → DivergingBy (KeyOf (HasKey ms)) (unused_keys ms)
keys_diverging ms s = rw (keys-found ms) (entries_diverging (λ d. unused [] ∷ []) (λ d s. (tt, tt)) ms s)
