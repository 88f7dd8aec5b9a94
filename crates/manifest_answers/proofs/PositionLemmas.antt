-- The bytes of positions, as those of offsets.
use Rattle.std.proofs.Common.{◌≡◌, ℕ, List, map, Vec, Global, Result, Ok, Err, inr, subst, IsUtf8}
use Rattle.manifest_schema.specs.Prelude.{Text}
use Rattle.manifest_bytes.specs.Encoded.{encoded}
use Rattle.manifest_places.specs.Lines.{Position, offset_position, OffsetsAscend}
use Rattle.manifest_answers.specs.declared.refusal.Refusal.{Refusal}
use Rattle.manifest_answers.specs.Made.{AreWithin, RefusesTagged, IsMade}
use Rattle.manifest_answers.specs.Positions.{positions_data, GivesPositions, RefusesPositions}

pub positions_made : (most : ℕ) (bytes : Text) (offsets : List ℕ) (ps : List Position)
    (r : Result (Vec ℕ Global) Refusal) → IsUtf8 bytes → OffsetsAscend bytes 0 offsets → ps ≡ map (offset_position bytes) offsets
    → IsMade (AreWithin most (encoded (positions_data ps))) (RefusesTagged most (encoded (positions_data ps))) r
    → IsMade (GivesPositions most bytes offsets) (RefusesPositions most bytes offsets) r
positions_made most bytes offsets ps (Ok v) utf8 ascend same h =
    (utf8, ascend, subst (λ qs. AreWithin most (encoded (positions_data qs)) v.items) same h)
positions_made most bytes offsets ps (Err e) utf8 ascend same h =
    inr (inr (inr (subst (λ qs. RefusesTagged most (encoded (positions_data qs)) e) same h)))
