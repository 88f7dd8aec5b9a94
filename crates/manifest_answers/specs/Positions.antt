-- The lines and the columns of offsets in a text, as a value and as its tagged bytes.
use Rattle.manifest_schema.specs.Prelude.{Data, integer, array, no_items, item, Text}
use Rattle.std.specs.Prelude.{◌≡◌, ◌⊎◌, ℕ, List, map, IsUtf8}
use Rattle.toml.specs.View.{items_of}
use Rattle.manifest_bytes.specs.Encoded.{encoded}
use Rattle.manifest_fault.specs.declared.error.Error.TheVariants.{Utf8}
use Rattle.manifest_places.specs.Lines.{Position, offset_position, OffsetsAscend}
use Rattle.manifest_answers.specs.declared.refusal.InputError.{InputError}
use Rattle.manifest_answers.specs.declared.refusal.InputError.TheVariants.{Manifest as NoManifest}
use Rattle.manifest_answers.specs.declared.refusal.Refusal.TheVariants.{Bytes, Offsets}
use Rattle.manifest_answers.specs.Inspected.{index_number}
use Rattle.manifest_answers.specs.Made.{Refusals, IsOutOfMemory, AreWithin, RefusesTagged}

-- A POSITION: its line, and the bytes, characters and units of UTF-16 that stand before it
abbrev pub number_data : ℕ → Data
number_data n = integer (index_number n)

abbrev pub position_data : Position → Data
position_data p =
    array (item (number_data p.line) (item (number_data p.bytes)
    (item (number_data p.characters) (item (number_data p.units) no_items))))

abbrev pub positions_data : List Position → Data
positions_data ps = array (items_of (map position_data ps))

-- the value of the positions that these offsets have
abbrev pub offsets_data : Text → List ℕ → Data
offsets_data text offsets = positions_data (map (offset_position text) offsets)

-- THE TEXT is the tagged bytes of the positions of the offsets, which ascend
abbrev pub GivesPositions : ℕ → Text → List ℕ → Text → Type 0
GivesPositions most bytes offsets text =
    IsUtf8 bytes × OffsetsAscend bytes 0 offsets × AreWithin most (encoded (offsets_data bytes offsets)) text

-- the bytes are not UTF-8
abbrev pub AreNotUtf8 : Text → Refusals
AreNotUtf8 bytes (Bytes (NoManifest (Utf8 e))) = ¬ IsUtf8 bytes
AreNotUtf8 bytes _ = ⊥

-- the offsets do not ascend in the text
abbrev pub DoNotAscend : Text → List ℕ → Refusals
DoNotAscend bytes offsets Offsets = ¬ OffsetsAscend bytes 0 offsets
DoNotAscend bytes offsets _ = ⊥

-- the bytes are not UTF-8, the offsets do not ascend, the tagged bytes are refused as they are made, or memory ran out
abbrev pub RefusesPositions : ℕ → Text → List ℕ → Refusals
RefusesPositions most bytes offsets e =
    AreNotUtf8 bytes e ⊎ DoNotAscend bytes offsets e
    ⊎ IsOutOfMemory e ⊎ RefusesTagged most (encoded (offsets_data bytes offsets)) e
