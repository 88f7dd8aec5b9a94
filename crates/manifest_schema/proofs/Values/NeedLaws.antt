-- Each need satisfies the laws, where its kind does.
use Rattle.manifest_schema.specs.Prelude.{Data, Text, key, Spellings, Slot, absent, one, clash, slot, is_sorted, meets_default, meets_lenient, meets_optional, written_some, written_unless, good_some, free_findings, required, optional, default, lenient_optional, lenient_default, left_out, unused_in, unused_of, found_under, leniently, found_paths, AllBegin, AllDiverge, IsFaultless, but_unused, FindsSoundly, IsSound, IsSoundNeed, IsDefault, slot_findings, slot_key, IsSlotSorted}
use Rattle.std.proofs.Common.{◌≡◌, ◌↔◌, Bool, true, false, ◌⊎◌, inl, inr, [], Option, Some, None, refl, sym, ap, ◌∙◌}
use Rattle.manifest_schema.specs.Kinds
use Rattle.manifest_schema.proofs.Tables.LeftOutLaws.{unused-lenient}
use Rattle.manifest_schema.proofs.Findings.Faultless.{no_nil, under_none, lenient_none, none_or_some, none_among, but-under, but-lenient}
use Rattle.manifest_schema.proofs.Findings.Diverging.{under_begin, under_diverging, paths-lenient}
use Rattle.manifest_schema.proofs.Values.KindLaws.{same}

pub either_way : {P Q R T : Type 0} → P ↔ Q → R ↔ T → (P ⊎ R) ↔ (Q ⊎ T)
either_way a b = (
  elim [ inl h ↦ inl (a.0 h) | inr h ↦ inr (b.0 h) ],
  elim [
    | inl h ↦ inl (a.1 h)
    | inr h ↦ inr (b.1 h)
  ],
)

module _ {B : Type 0} {K : Kinds.Kind B} (S : IsSound K) where
  abbrev left : Data → Data
  left d = left_out (unused_in K d) d

  -- WHAT IS FOUND of the value under a key
  one_read : (k : Text) (d : Data) → IsFaultless (found_under (key k) (K.findings d)) → (x : B) × K.reads d x
  one_read k d e = (S.decided d).0 ((under_none (key k) (K.findings d)).0 e)

  one_fits : (k : Text) (d : Data) (x : B) → K.reads d x → IsFaultless (found_under (key k) (K.findings d))
  one_fits k d x r = (under_none (key k) (K.findings d)).1 ((S.decided d).1 (x, r))

  one_left : (k : Text) (d : Data) → is_sorted d ≡ true
      → found_under (key k) (K.findings (left d)) ≡ but_unused (found_under (key k) (K.findings d))
  one_left k d s = ap (found_under (key k)) (S.tidy d s).1 ∙ sym (but-under (key k) (K.findings d))

  found_free : (names : Spellings) (s : Slot) → unused_of (free_findings names K.findings s) ≡ unused_of
      (slot_findings K.findings s)
  found_free names = elim [ absent ↦ refl | clash ↦ refl | one k d ↦ refl ]

  free_begins : (names : Spellings) (s : Slot)
      → AllBegin (λ t. t ≡ key (slot_key names s)) (found_paths (free_findings names K.findings s))
  free_begins names absent = tt
  free_begins names clash = (refl, tt)
  free_begins names (one k d) = under_begin (key k) (K.findings d)

  free_once : (names : Spellings) (s : Slot) → IsSlotSorted s
      → AllDiverge (found_paths (free_findings names K.findings s))
  free_once names absent s = tt
  free_once names clash s = (tt, tt)
  free_once names (one k d) s = (under_diverging (key k) (K.findings d) (S.once d s)).diverge

  -- REQUIRED
  pub required_sound : IsSoundNeed (required K)
  required_sound = record {
    finds = record {
      decided =
          λ names. elim [
            | absent ↦ (λ e. absurd (no_nil e), λ a. absurd a.1)
            | clash ↦ (λ e. absurd (no_nil e), λ a. absurd a.1)
            | one k d ↦ (one_read k d, λ a. one_fits k d a.0 a.1)
          ];
      clean = λ names k x g. ap (found_under (key k)) (S.back x g).1;
      value = K.findings;
      found = λ names. elim [ absent ↦ refl | clash ↦ refl | one k d ↦ refl ];
      tidy = λ names k d s. ((S.tidy d s).0, one_left k d s);
      inside = S.inside;
      begins =
          λ names. elim [ absent ↦ (refl, tt) | clash ↦ (refl, tt) | one k d ↦ under_begin (key k) (K.findings d) ];
      once = λ names. elim [
        | absent ↦ λ s. (tt, tt)
        | clash ↦ λ s. (tt, tt)
        | one k d ↦ λ s. (under_diverging (key k) (K.findings d) (S.once d s)).diverge
      ];
    };
    single = elim [ absent ↦ λ x y a b. absurd a | clash ↦ λ x y a b. absurd a | one k d ↦ S.single d ];
    well = elim [ absent ↦ λ x a. absurd a | clash ↦ λ x a. absurd a | one k d ↦ S.well d ];
    back = λ k x g. (S.back x g).0;
  }

  -- OPTIONAL
  optional_single : (s : Slot) (x y : Option B) → meets_optional K s x → meets_optional K s y → x ≡ y
  optional_single absent None None a b = refl
  optional_single absent None (Some y) a b = absurd b
  optional_single absent (Some x) y a b = absurd a
  optional_single (one k d) (Some x) (Some y) a b = ap Some (S.single d x y a b)
  optional_single (one k d) (Some x) None a b = absurd b
  optional_single (one k d) None y a b = absurd a
  optional_single clash x y a b = absurd a

  optional_fits : (names : Spellings) (s : Slot) (x : Option B) → meets_optional K s x
      → IsFaultless (free_findings names K.findings s)
  optional_fits names absent x a = refl
  optional_fits names (one k d) (Some x) a = one_fits k d x a
  optional_fits names (one k d) None a = absurd a
  optional_fits names clash x a = absurd a

  optional_read : (names : Spellings) (s : Slot) → IsFaultless (free_findings names K.findings s)
      → (x : Option B) × meets_optional K s x
  optional_read names absent e = (None, tt)
  optional_read names (one k d) e = let (x, r) = one_read k d e in (Some x, r)
  optional_read names clash e = absurd (no_nil e)

  optional_well : (s : Slot) (x : Option B) → meets_optional K s x → good_some K x
  optional_well absent None a = tt
  optional_well absent (Some x) a = absurd a
  optional_well (one k d) (Some x) a = S.well d x a
  optional_well (one k d) None a = absurd a
  optional_well clash x a = absurd a

  some_clean : (names : Spellings) (k : Text) (x : Option B) → good_some K x → free_findings names K.findings
      (slot k (written_some K x)) ≡ []
  some_clean names k None g = refl
  some_clean names k (Some x) g = ap (found_under (key k)) (S.back x g).1

  optional_back : (k : Text) (x : Option B) → good_some K x → meets_optional K (slot k (written_some K x)) x
  optional_back k None g = tt
  optional_back k (Some x) g = (S.back x g).0

  pub optional_sound : IsSoundNeed (optional K)
  optional_sound = record {
    finds = record {
      decided = λ names s. (optional_read names s, λ a. optional_fits names s a.0 a.1);
      clean = some_clean;
      value = K.findings;
      found = found_free;
      tidy = λ names k d s. (elim [ None ↦ same | Some x ↦ (S.tidy d s).0 x ], one_left k d s);
      inside = S.inside;
      begins = free_begins;
      once = free_once;
    };
    single = optional_single;
    well = optional_well;
    back = optional_back;
  }

  -- DEFAULT: what is found of a slot does not depend on it
  module _ (e : B) (skipped : B → Bool) where
    default_single : (s : Slot) (x y : B) → meets_default e K s x → meets_default e K s y → x ≡ y
    default_single absent x y a b = a ∙ sym b
    default_single (one k d) x y a b = S.single d x y a b
    default_single clash x y a b = absurd a

    default_fits : (names : Spellings) (s : Slot) (x : B) → meets_default e K s x
        → IsFaultless (free_findings names K.findings s)
    default_fits names absent x a = refl
    default_fits names (one k d) x a = one_fits k d x a
    default_fits names clash x a = absurd a

    default_read : (names : Spellings) (s : Slot) → IsFaultless (free_findings names K.findings s)
        → (x : B) × meets_default e K s x
    default_read names absent h = (e, refl)
    default_read names (one k d) h = one_read k d h
    default_read names clash h = absurd (no_nil h)

    unless_clean : (t : Bool) (names : Spellings) (k : Text) (x : B) → K.good x
        → free_findings names K.findings (slot k (written_unless K t x)) ≡ []
    unless_clean true names k x g = refl
    unless_clean false names k x g = ap (found_under (key k)) (S.back x g).1

    pub default_finds : FindsSoundly (default K e skipped)
    default_finds = record {
      decided = λ names s. (default_read names s, λ a. default_fits names s a.0 a.1);
      clean = λ names k x g. unless_clean (skipped x) names k x g;
      value = K.findings;
      found = found_free;
      tidy = λ names k d s. ((S.tidy d s).0, one_left k d s);
      inside = S.inside;
      begins = free_begins;
      once = free_once;
    }

    module _ (D : IsDefault K e skipped) where
      default_well : (s : Slot) (x : B) → meets_default e K s x → K.good x
      default_well absent x a = rw a D.well
      default_well (one k d) x a = S.well d x a
      default_well clash x a = absurd a

      unless_back : (t : Bool) (k : Text) (x : B) → (t ≡ true → x ≡ e) → K.good x
          → meets_default e K (slot k (written_unless K t x)) x
      unless_back true k x h g = h refl
      unless_back false k x h g = (S.back x g).0

      pub default_sound : IsSoundNeed (default K e skipped)
      default_sound = record {
        finds = default_finds;
        single = default_single;
        well = default_well;
        back = λ k x g. unless_back (skipped x) k x (D.skips x) g;
      }

  -- LENIENT
  module _ {C : Type 0} (wrap : B → C) (e : C) where
    abbrev Value : Data → C → Type 0
    Value d x = ((b : B) × K.reads d b × (x ≡ wrap b)) ⊎ (((b : B) → K.reads d b → ⊥) × (x ≡ e))

    value_single : (d : Data) (x y : C) → Value d x → Value d y → x ≡ y
    value_single d x y (inl a) (inl b) = a.2 ∙ ap wrap (S.single d a.0 b.0 a.1 b.1) ∙ sym b.2
    value_single d x y (inl a) (inr b) = absurd (b.0 a.0 a.1)
    value_single d x y (inr a) (inl b) = absurd (a.0 b.0 b.1)
    value_single d x y (inr a) (inr b) = a.1 ∙ sym b.1

    lenient_single : (s : Slot) (x y : C) → meets_lenient wrap e K s x → meets_lenient wrap e K s y → x ≡ y
    lenient_single absent x y a b = a ∙ sym b
    lenient_single (one k d) x y a b = value_single d x y a b
    lenient_single clash x y a b = a ∙ sym b

    lenient_reads : (s : Slot) → (x : C) × meets_lenient wrap e K s x
    lenient_reads absent = (e, refl)
    lenient_reads clash = (e, refl)
    lenient_reads (one k d) = elim (none_or_some _) [
      | inl h ↦ let (b, r) = (S.decided d).0 h in (wrap b, inl (b, r, refl))
      | inr f ↦ (e, inr (λ b r. none_among _ f.0 f.1 ((S.decided d).1 (b, r)) f.2, refl))
    ]

    value_good : (good : C → Type 0) → ((b : B) → K.good b → good (wrap b)) → good e → (d : Data) (x : C) → Value d x
        → good x
    value_good good up base d x (inl a) = rw a.2 (up a.0 (S.well d a.0 a.1))
    value_good good up base d x (inr a) = rw a.1 base

    lenient_well : (good : C → Type 0) → ((b : B) → K.good b → good (wrap b)) → good e → (s : Slot) (x : C)
        → meets_lenient wrap e K s x → good x
    lenient_well good up base absent x a = rw a base
    lenient_well good up base (one k d) x a = value_good good up base d x a
    lenient_well good up base clash x a = rw a base

    lenient_left : (k : Text) (d : Data) → is_sorted d ≡ true → (x : C)
        → meets_lenient wrap e K (one k (left d)) x ↔ meets_lenient wrap e K (one k d) x
    lenient_left k d s x = let c = (S.tidy d s).0 in
        either_way (λ h. (h.0, (c h.0).0 h.1, h.2), λ h. (h.0, (c h.0).1 h.1, h.2))
        (λ h. (λ b r. h.0 b ((c b).1 r), h.1), λ h. (λ b r. h.0 b ((c b).0 r), h.1))

  lenient_found : (names : Spellings) (s : Slot)
      → unused_of (leniently (free_findings names K.findings s)) ≡ unused_of (slot_findings K.findings s)
  lenient_found names s = unused-lenient (free_findings names K.findings s) ∙ found_free names s

  lenient_less : (k : Text) (d : Data) → is_sorted d ≡ true
      → leniently (found_under (key k) (K.findings (left d)))
      ≡ but_unused (leniently (found_under (key k) (K.findings d)))
  lenient_less k d s = ap leniently (one_left k d s) ∙ sym (but-lenient (found_under (key k) (K.findings d)))

  lenient_begins : (names : Spellings) (s : Slot)
      → AllBegin (λ t. t ≡ key (slot_key names s)) (found_paths (leniently (free_findings names K.findings s)))
  lenient_begins names s = rw (paths-lenient (free_findings names K.findings s)) (free_begins names s)

  lenient_once : (names : Spellings) (s : Slot) → IsSlotSorted s
      → AllDiverge (found_paths (leniently (free_findings names K.findings s)))
  lenient_once names s h = rw (paths-lenient (free_findings names K.findings s)) (free_once names s h)

  lenient_back : (k : Text) (x : Option B) → good_some K x → meets_lenient Some None K (slot k (written_some K x)) x
  lenient_back k None g = refl
  lenient_back k (Some x) g = inl (x, (S.back x g).0, refl)

  pub lenient_optional_sound : IsSoundNeed (lenient_optional K)
  lenient_optional_sound = record {
    finds = record {
      decided = λ names s. (λ h. lenient_reads Some None s, λ a. lenient_none (free_findings names K.findings s));
      clean = λ names k x g. ap leniently (some_clean names k x g);
      value = K.findings;
      found = lenient_found;
      tidy = λ names k d s. (lenient_left Some None k d s, lenient_less k d s);
      inside = S.inside;
      begins = lenient_begins;
      once = lenient_once;
    };
    single = lenient_single Some None;
    well = lenient_well Some None (good_some K) (λ b g. g) tt;
    back = lenient_back;
  }

  pub lenient_default_finds : (e : B) → FindsSoundly (lenient_default K e)
  lenient_default_finds e = record {
    decided = λ names s. (λ h. lenient_reads (λ b. b) e s, λ a. lenient_none (free_findings names K.findings s));
    clean = λ names k x g. ap (λ fs. leniently (found_under (key k) fs)) (S.back x g).1;
    value = K.findings;
    found = lenient_found;
    tidy = λ names k d s. (lenient_left (λ b. b) e k d s, lenient_less k d s);
    inside = S.inside;
    begins = lenient_begins;
    once = lenient_once;
  }

  pub lenient_default_sound : (e : B) → K.good e → IsSoundNeed (lenient_default K e)
  lenient_default_sound e base = record {
    finds = lenient_default_finds e;
    single = lenient_single (λ b. b) e;
    well = lenient_well (λ b. b) e K.good (λ b g. g) base;
    back = λ k x g. inl (x, (S.back x g).0, refl);
  }
