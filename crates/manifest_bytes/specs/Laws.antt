-- What is promised of the bytes of a value.
use Rattle.manifest_schema.specs.Prelude.{Data, Kind, plain, Manifest, well_formed, written_manifest}
use Rattle.std.specs.Prelude.{◌≡◌, IsTrue, Some}
use Rattle.manifest_bytes.specs.Encoded.{encoded}
use Rattle.manifest_bytes.specs.Decoded.{decoded}

-- the value is what its bytes hold
abbrev pub IsHeld : Data → Type 0
IsHeld d = decoded (encoded d) ≡ Some d

-- each value without floats is
abbrev pub EncodedIsDecoded : Type 0
EncodedIsDecoded = (d : Data) → IsTrue (plain d) → IsHeld d

-- of each value of a kind what is written has no float, if it is well-formed
abbrev pub IsFloatless : Kind Data → Type 0
IsFloatless K = (x : Data) → K.good x → IsTrue (plain (K.written x))

-- so is the table of each well-formed manifest, where no metadata that is well-formed is written with a float
abbrev pub TableIsDecoded : Kind Data → Kind Data → Type 0
TableIsDecoded K W =
    IsFloatless K → IsFloatless W → (m : Manifest) → well_formed K W m →
    IsHeld (written_manifest K W m)
