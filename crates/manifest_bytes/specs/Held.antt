-- The trees that a `Value` can hold.
use Rattle.std.specs.Prelude.{ℕ, ◌<◌, ◌^◌, List, length, IfSome, IsTrue, IsUtf8, FitsSigned}
use Rattle.std.specs.Int.{w16, w64}
use Rattle.std.specs.Float.{binary64}
use lib.Ieee.{fits}
use Rattle.toml_datetime.specs.declared.datetime.Date.{Date}
use Rattle.toml_datetime.specs.declared.datetime.Time.{Time}
use Rattle.toml_datetime.specs.declared.datetime.Offset.{Offset}
use Rattle.toml_datetime.specs.declared.datetime.Offset.TheVariants.{Z, Custom}
use Rattle.toml_datetime.specs.declared.datetime.Datetime.{Datetime}
use Rattle.toml.specs.Data.{Data, string, integer, float, boolean, datetime, array, table, Items, no_items, item, Members, no_members, member, is_before}
use Rattle.manifest_bytes.specs.Encoded.{item_count, member_count}

-- A TEXT is UTF-8, and has a length that is a `u64`
abbrev pub FitsText : List ℕ → Type 0
FitsText t = IsUtf8 t × (length t < 2 ^ 64)

-- A DATE: each number fits its type, whatever day that is
abbrev pub FitsDate : Date → Type 0
FitsDate d = (d.year < 2 ^ 16) × (d.month < 2 ^ 8) × (d.day < 2 ^ 8)

-- a time, so too
abbrev pub FitsTime : Time → Type 0
FitsTime t =
    (t.hour < 2 ^ 8) × (t.minute < 2 ^ 8)
    × IfSome t.second (λ s. s < 2 ^ 8) × IfSome t.nanosecond (λ n. n < 2 ^ 32)

-- an offset: `Z`, or minutes that are an `i16`
abbrev pub FitsOffset : Offset → Type 0
FitsOffset Z = Unit {0}
FitsOffset (Custom minutes) = FitsSigned w16 minutes

-- A DATE-TIME: each part that is there
abbrev pub FitsDatetime : Datetime → Type 0
FitsDatetime t = IfSome t.date FitsDate × IfSome t.time FitsTime × IfSome t.offset FitsOffset

-- A VALUE: whole numbers are `i64`, floats `f64`, keys texts that ascend, and a list or table has a `u64` of entries
abbrev mutual
  pub FitsValue : Data → Type 0
  FitsValue (string s) = FitsText s
  FitsValue (integer z) = FitsSigned w64 z
  FitsValue (float x) = IsTrue (fits binary64 x)
  FitsValue (boolean b) = Unit {0}
  FitsValue (datetime t) = FitsDatetime t
  FitsValue (array ds) = (item_count ds < 2 ^ 64) × FitItems ds
  FitsValue (table ms) = (member_count ms < 2 ^ 64) × FitMembers ms

  -- each of the items
  pub FitItems : Items → Type 0
  FitItems no_items = Unit {0}
  FitItems (item d ds) = FitsValue d × FitItems ds

  -- each of the keys and of their values
  pub FitMembers : Members → Type 0
  FitMembers no_members = Unit {0}
  FitMembers (member k d ms) = FitsText k × IsTrue (is_before k ms) × FitsValue d × FitMembers ms
