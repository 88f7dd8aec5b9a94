-- The table of a manifest whose metadata is not looked at is what its tagged bytes hold.
use Rattle.manifest_schema.specs.Prelude.{Manifest, unread, unread_sound}
use Rattle.std.proofs.Common.{◌≡◌, ℕ, List, Vec, Global, Some, Result, Ok, Err, inr, refl, ap, ◌∙◌}
use Rattle.manifest_schema.proofs.Values.KindLaws.{tree_sound}
use Rattle.manifest_schema.proofs.Meaning.MeaningLaws.{accepted_is_well_formed}
use Rattle.manifest_bytes.specs.Encoded.{encoded}
use Rattle.manifest_bytes.specs.Decoded.{decoded}
use Rattle.manifest_bytes.specs.Laws.{IsFloatless}
use Rattle.manifest_bytes.proofs.FloatLemmas.{tree_floatless, table_is_decoded}
use Rattle.manifest_answers.specs.declared.refusal.Refusal.{Refusal}
use Rattle.manifest_answers.specs.Read.{IsSourceOf}
use Rattle.manifest_answers.specs.Made.{AreWithin, RefusesTagged, IsMade}
use Rattle.manifest_answers.specs.Unread.{no_metadata, unread_table, GivesUnread, RefusesUnread}

no_metadata_floatless : IsFloatless no_metadata
no_metadata_floatless = tree_floatless unread (λ x g. refl)

unread_held : (bytes : List ℕ) (m : Manifest) → IsSourceOf no_metadata no_metadata bytes m
    → decoded (encoded (unread_table m)) ≡ Some (unread_table m)
unread_held bytes m is =
    let lawful = tree_sound unread_sound in
    let formed = (accepted_is_well_formed lawful lawful is.document m is.meant).0 in
    table_is_decoded no_metadata no_metadata no_metadata_floatless no_metadata_floatless m formed

pub unread_made : (most : ℕ) (bytes : List ℕ) (m : Manifest) (r : Result (Vec ℕ Global) Refusal)
    → IsSourceOf no_metadata no_metadata bytes m
    → IsMade (AreWithin most (encoded (unread_table m))) (RefusesTagged most (encoded (unread_table m))) r
    → IsMade (GivesUnread most bytes) (RefusesUnread most bytes) r
unread_made most bytes m (Ok v) is h = (m, is, h, ap decoded h.0 ∙ unread_held bytes m is)
unread_made most bytes m (Err e) is h = inr (m, is, h)
