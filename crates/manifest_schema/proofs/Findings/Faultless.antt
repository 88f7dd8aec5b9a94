-- Lists of findings: whether a fault is among them, and what they are without the unused keys.
use Rattle.std.proofs.Common.{◌≡◌, ◌⊎◌, inl, inr, List, [], ◌∷◌, ◌++◌, ◌↔◌, refl, sym, ap, ◌∙◌, subst}
use Rattle.manifest_schema.specs.Prelude.{append-nil, Members, no_members, member, Path, Cause, Step, Finding, fault, ignored, unused, found_under, unused_keys, leniently, faults_of, among, unused_of, IsFaultless, but_unused, Decided, ReadOrFaulty}

-- a list with an element is not the empty one
abbrev IsNil : {A : Type 0} → List A → Type 0
IsNil [] = Unit {0}
IsNil (x ∷ xs) = ⊥

pub no_nil : {A : Type 0} {x : A} {xs : List A} → x ∷ xs ≡ [] → ⊥
no_nil e = subst IsNil (sym e) tt

-- NO FAULT in one list after another, or after a step
pub both_none : (fs gs : List Finding) → IsFaultless (fs ++ gs) ↔ (IsFaultless fs × IsFaultless gs)
both_none [] gs = (λ e. (refl, e), λ h. h.1)
both_none (fault p c ws ∷ fs) gs = (λ e. absurd (no_nil e), λ h. absurd (no_nil h.0))
both_none (ignored p c ws ∷ fs) gs = both_none fs gs
both_none (unused p ∷ fs) gs = both_none fs gs

pub under_none : (s : Step) (fs : List Finding) → IsFaultless (found_under s fs) ↔ IsFaultless fs
under_none s [] = (λ e. e, λ e. e)
under_none s (fault p c ws ∷ fs) = (λ e. absurd (no_nil e), λ e. absurd (no_nil e))
under_none s (ignored p c ws ∷ fs) = under_none s fs
under_none s (unused p ∷ fs) = under_none s fs

pub keys_none : (ms : Members) → IsFaultless (unused_keys ms)
keys_none no_members = refl
keys_none (member k d ms) = keys_none ms

pub lenient_none : (fs : List Finding) → IsFaultless (leniently fs)
lenient_none [] = refl
lenient_none (fault p c ws ∷ fs) = lenient_none fs
lenient_none (ignored p c ws ∷ fs) = lenient_none fs
lenient_none (unused p ∷ fs) = lenient_none fs

-- either there is no fault, or there is a first one
pub none_or_some : (fs : List (Path × Cause)) → (fs ≡ []) ⊎ ((p : Path) × (c : Cause) × among fs p c)
none_or_some [] = inl refl
none_or_some (f ∷ fs) = inr (f.0, f.1, inl (refl, refl))

pub none_among : (fs : List (Path × Cause)) (p : Path) (c : Cause) → fs ≡ [] → among fs p c → ⊥
none_among fs p c e h = rw e at h

-- WHAT IS DECIDED
pub decided_apart : {A : Type 0} (fs : List Finding) {R : A → Type 0} → Decided fs R → (p : Path) (c : Cause) (x : A)
    → among (faults_of fs) p c → R x → ⊥
decided_apart fs D p c x f a = none_among (faults_of fs) p c (D.1 (x, a)) f

pub decided_total : {A : Type 0} (fs : List Finding) {R : A → Type 0} → Decided fs R
    → ReadOrFaulty R (among (faults_of fs))
decided_total fs D = elim (none_or_some (faults_of fs)) [ inl e ↦ inl (D.0 e) | inr f ↦ inr f ]

-- WITHOUT THE UNUSED KEYS
pub but-append : (fs gs : List Finding) → but_unused (fs ++ gs) ≡ but_unused fs ++ but_unused gs
but-append [] gs = refl
but-append (fault p c ws ∷ fs) gs = ap (λ t. fault p c ws ∷ t) (but-append fs gs)
but-append (ignored p c ws ∷ fs) gs = ap (λ t. ignored p c ws ∷ t) (but-append fs gs)
but-append (unused p ∷ fs) gs = but-append fs gs

pub but-under : (s : Step) (fs : List Finding) → but_unused (found_under s fs) ≡ found_under s (but_unused fs)
but-under s [] = refl
but-under s (fault p c ws ∷ fs) = ap (λ t. fault (s ∷ p) c ws ∷ t) (but-under s fs)
but-under s (ignored p c ws ∷ fs) = ap (λ t. ignored (s ∷ p) c ws ∷ t) (but-under s fs)
but-under s (unused p ∷ fs) = but-under s fs

pub but-lenient : (fs : List Finding) → but_unused (leniently fs) ≡ leniently (but_unused fs)
but-lenient [] = refl
but-lenient (fault p c ws ∷ fs) = ap (λ t. ignored p c ws ∷ t) (but-lenient fs)
but-lenient (ignored p c ws ∷ fs) = ap (λ t. ignored p c ws ∷ t) (but-lenient fs)
but-lenient (unused p ∷ fs) = but-lenient fs

pub but-keys : (ms : Members) → but_unused (unused_keys ms) ≡ []
but-keys no_members = refl
but-keys (member k d ms) = but-keys ms

-- where no key is unused, nothing goes
pub but-bare : (fs : List Finding) → unused_of fs ≡ [] → but_unused fs ≡ fs
but-bare [] e = refl
but-bare (fault p c ws ∷ fs) e = ap (λ t. fault p c ws ∷ t) (but-bare fs e)
but-bare (ignored p c ws ∷ fs) e = ap (λ t. ignored p c ws ∷ t) (but-bare fs e)
but-bare (unused p ∷ fs) e = absurd (no_nil e)

-- the faults stay
pub faults-but : (fs : List Finding) → faults_of (but_unused fs) ≡ faults_of fs
faults-but [] = refl
faults-but (fault p c ws ∷ fs) = ap (λ t. (p, c) ∷ t) (faults-but fs)
faults-but (ignored p c ws ∷ fs) = faults-but fs
faults-but (unused p ∷ fs) = faults-but fs

pub faults-append : (fs gs : List Finding) → faults_of (fs ++ gs) ≡ faults_of fs ++ faults_of gs
faults-append [] gs = refl
faults-append (fault p c ws ∷ fs) gs = ap (λ t. (p, c) ∷ t) (faults-append fs gs)
faults-append (ignored p c ws ∷ fs) gs = faults-append fs gs
faults-append (unused p ∷ fs) gs = faults-append fs gs

pub faults-keys : (fs : List Finding) (ms : Members) → faults_of (fs ++ unused_keys ms) ≡ faults_of fs
faults-keys fs ms =
    faults-append fs (unused_keys ms) ∙ ap (λ t. faults_of fs ++ t) (keys_none ms) ∙ append-nil (faults_of fs)
