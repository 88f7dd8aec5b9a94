-- How long the document of a table is at most: a bound that can be counted without making the text.
use Rattle.manifest_schema.specs.Prelude.{Data, string, integer, float, boolean, datetime, array, table, Items, no_items, item, Members, no_members, member, IsDocumentText, plain_members}
use Rattle.std.specs.Prelude.{◌≡◌, ℕ, ◌+◌, ◌≤◌, List, true, false, length}
use Rattle.std.specs.Fmt.{signed_decimal}
use Rattle.toml_datetime.specs.Text.{datetime_text}
use Rattle.toml_writer.specs.Text.{key_text, string_text}

-- a key, and a dot or a blank
abbrev pub key_size : List ℕ → ℕ
key_size k = length (key_text k) + 1

-- a value after a path of keys of a given length: a table stands under a header of its own, or in braces
abbrev mutual
  pub printed_size : ℕ → Data → ℕ
  printed_size path (string s) = length (string_text s)
  printed_size path (integer z) = length (signed_decimal z)
  printed_size path (float x) = 0
  printed_size path (boolean b) = 5
  printed_size path (datetime dt) = length (datetime_text dt)
  printed_size path (array ds) = printed_items path ds + 2
  printed_size path (table ms) = printed_members path ms + path + 3

  -- items with what stands between two, or makes a header that of an array
  pub printed_items : ℕ → Items → ℕ
  printed_items path no_items = 0
  printed_items path (item d ds) = printed_size path d + 2 + printed_items path ds

  -- members with the equals sign and the line's end, or with what stands between two
  pub printed_members : ℕ → Members → ℕ
  printed_members path no_members = 0
  printed_members path (member k d ms) =
      key_size k + 4 + printed_size (path + key_size k) d + printed_members path ms

-- this number of bytes holds the document of the table
abbrev pub printed_bound : Members → ℕ
printed_bound ms = printed_members 0 ms

-- the document of a table without a float is no longer
abbrev pub PrintedIsBounded : Type 0
PrintedIsBounded =
    (ms : Members) (text : List ℕ) → plain_members ms ≡ true → IsDocumentText false ms text
    → length text ≤ printed_bound ms
