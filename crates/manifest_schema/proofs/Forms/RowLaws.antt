-- The laws that the rows of the forms are found from.
use Rattle.manifest_schema.specs.Prelude.{false≢true, not-true, boolean, Text, text, flag, list_of, never, is_empty, IsSound, IsDefault, IsPlain, a_text, a_flag, publish_flag, registries, texts, text_or_flag, publish}
use Rattle.std.proofs.Common.{◌≡◌, true, false, inl, inr, List, [], ◌∷◌, refl}
use Rattle.manifest_schema.specs.Kinds
use Rattle.manifest_schema.specs.Kinds.{is_flag}
use Rattle.manifest_schema.specs.Needs.{if_true, if_false}
use Rattle.manifest_schema.specs.PartForms.{text_or_flag_side, publish_side}
use Rattle.manifest_schema.proofs.Values.KindLaws.{text_sound, flag_sound, whole_sound, truth_sound, raw_sound, list_sound, map_sound, inh_sound, IsSplit, split_sound, plain_from}
use Rattle.manifest_schema.proofs.Values.NeedLaws.{required_sound, optional_sound, default_sound, lenient_optional_sound, lenient_default_sound}
use Rattle.manifest_schema.proofs.Values.ChoiceLaws.{edition_sound, edition_plain, resolver_sound, level_sound, status_sound, strip_sound}

-- TEXTS
texts_sound : IsSound texts
texts_sound = list_sound text_sound

pub text_plain : IsPlain text
text_plain = plain_from text_sound (λ ms x a. a) (λ x. tt)

texts_good : (xs : List Text) → texts.good xs
texts_good [] = tt
texts_good (x ∷ xs) = (tt, texts_good xs)

pub texts_plain : IsPlain texts
texts_plain = plain_from texts_sound (λ ms x a. a) texts_good

-- A TEXT OR A BOOLEAN
text_or_flag_split : IsSplit is_flag flag text text_or_flag_side
text_or_flag_split = record {
  from = elim [ inl b ↦ a_flag b | inr s ↦ a_text s ];
  there = elim [ inl b ↦ refl | inr s ↦ refl ];
  back = elim [ a_flag b ↦ refl | a_text s ↦ refl ];
  first = λ x g. refl;
  second = λ x g. refl;
  keeps = elim [ boolean b ↦ refl | _ ↦ refl ];
}

pub text_or_flag_sound : IsSound text_or_flag
text_or_flag_sound = split_sound flag_sound text_sound text_or_flag_split

pub text_or_flag_plain : IsPlain text_or_flag
text_or_flag_plain =
    plain_from text_or_flag_sound (λ ms. elim [ a_text b ↦ λ a. a | a_flag s ↦ λ a. a ])
    (elim [ a_text b ↦ tt | a_flag s ↦ tt ])

-- PUBLISH
publish_split : IsSplit is_flag flag texts publish_side
publish_split = record {
  from = elim [ inl b ↦ publish_flag b | inr s ↦ registries s ];
  there = elim [ inl b ↦ refl | inr s ↦ refl ];
  back = elim [ publish_flag b ↦ refl | registries s ↦ refl ];
  first = λ x g. refl;
  second = λ x g. refl;
  keeps = elim [ boolean b ↦ refl | _ ↦ refl ];
}

pub publish_sound : IsSound publish
publish_sound = split_sound flag_sound texts_sound publish_split

pub publish_plain : IsPlain publish
publish_plain =
    plain_from publish_sound (λ ms. elim [ publish_flag b ↦ λ a. a | registries s ↦ λ a. a ])
    (elim [ publish_flag b ↦ tt | registries s ↦ texts_good s ])

-- DEFAULTS: what is skipped is the default
pub never_skips : {B : Type 0} {K : Kinds.Kind B} {e : B} → K.good e → IsDefault K e never
never_skips g = record { well = g; skips = λ x h. absurd (false≢true h) }

pub unless_true : IsDefault flag true if_true
unless_true = record { well = tt; skips = λ x h. h }

pub unless_false : IsDefault flag false if_false
unless_false = record { well = tt; skips = λ x h. not-true x h }

empty_to : {A : Type 0} (xs : List A) → is_empty xs ≡ true → xs ≡ []
empty_to [] h = refl
empty_to (x ∷ xs) h = absurd (false≢true h)

pub unless_empty : {A : Type 0} (K : Kinds.Kind A) → IsDefault (list_of K) [] is_empty
unless_empty K = record { well = tt; skips = empty_to }

pub ruleset row_laws = (
  required_sound,
  optional_sound,
  default_sound,
  lenient_optional_sound,
  lenient_default_sound,
  never_skips,
  unless_true,
  unless_false,
  unless_empty,
  text_sound,
  flag_sound,
  truth_sound,
  whole_sound,
  list_sound,
  map_sound,
  text_or_flag_sound,
  publish_sound,
  raw_sound,
  edition_sound,
  resolver_sound,
  level_sound,
  status_sound,
  strip_sound,
  inh_sound,
  text_plain,
  texts_plain,
  text_or_flag_plain,
  publish_plain,
  edition_plain,
)
