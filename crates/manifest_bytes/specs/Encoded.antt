-- A value as bytes: a tag, and after it what the value holds.
use Rattle.std.specs.Prelude.{ℕ, suc, List, [], ◌∷◌, ◌++◌, length, Bool, true, false, ℤ, pos, negsuc, Option, Some, None, to_bits}
use lib.Ieee.{binary64}
use Rattle.toml_datetime.specs.declared.datetime.Date.{Date}
use Rattle.toml_datetime.specs.declared.datetime.Time.{Time}
use Rattle.toml_datetime.specs.declared.datetime.Offset.{Offset}
use Rattle.toml_datetime.specs.declared.datetime.Offset.TheVariants.{Z, Custom}
use Rattle.toml_datetime.specs.declared.datetime.Datetime.{Datetime}
use Rattle.toml.specs.Data.{Data, string, integer, float, boolean, datetime, array, table, Items, no_items, item, Members, no_members, member}
use Rattle.manifest_bytes.specs.Numbers.{number_bytes}

-- A TEXT: how many bytes it has, and the bytes
abbrev pub text_bytes : List ℕ → List ℕ
text_bytes t = number_bytes (length t) ++ t

-- A WHOLE NUMBER: tag 2, or tag 3 with -1 minus the number where that is below 0
abbrev pub integer_bytes : ℤ → List ℕ
integer_bytes (pos n) = 2 ∷ number_bytes n
integer_bytes (negsuc n) = 3 ∷ number_bytes n

abbrev pub boolean_tag : Bool → ℕ
boolean_tag false = 4
boolean_tag true = 5

-- A PART that may be left out: 0, or 1 and the part
abbrev pub part_bytes : {A : Type 0} → (A → List ℕ) → Option A → List ℕ
part_bytes bytes None = 0 ∷ []
part_bytes bytes (Some a) = 1 ∷ bytes a

-- the year, the month and the day
abbrev pub date_bytes : Date → List ℕ
date_bytes d = d.month ∷ d.day ∷ number_bytes d.year

abbrev pub second_bytes : ℕ → List ℕ
second_bytes s = s ∷ []

abbrev pub time_bytes : Time → List ℕ
time_bytes t =
    t.hour ∷ t.minute ∷ (part_bytes second_bytes t.second ++ part_bytes number_bytes t.nanosecond)

-- 0 for `Z`, 1 for minutes ahead, 2 for minutes behind less 1
abbrev pub offset_bytes : Offset → List ℕ
offset_bytes Z = 0 ∷ []
offset_bytes (Custom (pos n)) = 1 ∷ number_bytes n
offset_bytes (Custom (negsuc n)) = 2 ∷ number_bytes n

-- A DATE-TIME: the three parts, each of which may be left out
abbrev pub datetime_bytes : Datetime → List ℕ
datetime_bytes t =
    part_bytes date_bytes t.date
    ++ (part_bytes time_bytes t.time ++ part_bytes offset_bytes t.offset)

abbrev pub item_count : Items → ℕ
item_count no_items = 0
item_count (item d ds) = suc (item_count ds)

abbrev pub member_count : Members → ℕ
member_count no_members = 0
member_count (member k d ms) = suc (member_count ms)

-- A VALUE. A float is its 64 bits as a number, the same bits for every NaN. No table of a manifest has one.
abbrev mutual
  pub encoded : Data → List ℕ
  encoded (string s) = 1 ∷ text_bytes s
  encoded (integer z) = integer_bytes z
  encoded (boolean b) = boolean_tag b ∷ []
  encoded (datetime t) = 6 ∷ datetime_bytes t
  encoded (array ds) = 7 ∷ (number_bytes (item_count ds) ++ items_bytes ds)
  encoded (table ms) = 8 ∷ (number_bytes (member_count ms) ++ members_bytes ms)
  encoded (float x) = 9 ∷ number_bytes (to_bits binary64 x)

  -- the items in a row
  pub items_bytes : Items → List ℕ
  items_bytes no_items = []
  items_bytes (item d ds) = encoded d ++ items_bytes ds

  -- the keys in a row, each a text with its value after it
  pub members_bytes : Members → List ℕ
  members_bytes no_members = []
  members_bytes (member k d ms) = text_bytes k ++ (encoded d ++ members_bytes ms)
