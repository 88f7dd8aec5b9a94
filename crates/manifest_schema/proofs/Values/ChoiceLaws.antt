-- The choices satisfy the laws: each word that is written is read back.
use Rattle.manifest_schema.specs.Prelude.{none-some, e2015, e2021, forbid, deny, warn, allow, no_status, strip_none, strip_debuginfo, strip_symbols, edition, resolver, level, status, strip, IsSound, IsPlain}
use Rattle.std.proofs.Common.{refl}
use Rattle.manifest_schema.specs.Contents.{e2018, e2024, v1, v2, v3, actively_developed, passively_maintained, as_is, experimental, looking_for_maintainer, deprecated}
use Rattle.manifest_schema.proofs.Values.KindLaws.{choice_sound, plain_from}

pub edition_sound : IsSound edition
edition_sound = choice_sound _ _ _ (elim [ e2015 ↦ refl | e2018 ↦ refl | e2021 ↦ refl | e2024 ↦ refl ])

pub edition_plain : IsPlain edition
edition_plain = plain_from edition_sound (λ ms x a. none-some x a) (λ x. tt)

pub resolver_sound : IsSound resolver
resolver_sound = choice_sound _ _ _ (elim [ v1 ↦ refl | v2 ↦ refl | v3 ↦ refl ])

pub level_sound : IsSound level
level_sound = choice_sound _ _ _ (elim [ forbid ↦ refl | deny ↦ refl | warn ↦ refl | allow ↦ refl ])

pub status_sound : IsSound status
status_sound = choice_sound _ _ _ (elim [
  | no_status ↦ refl
  | actively_developed ↦ refl
  | passively_maintained ↦ refl
  | as_is ↦ refl
  | experimental ↦ refl
  | looking_for_maintainer ↦ refl
  | deprecated ↦ refl
])

pub strip_sound : IsSound strip
strip_sound = choice_sound _ _ _ (elim [ strip_none ↦ refl | strip_debuginfo ↦ refl | strip_symbols ↦ refl ])
