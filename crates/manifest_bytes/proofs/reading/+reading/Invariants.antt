use Rattle.std.proofs.Common.{◌≡◌, ℕ, ◌+◌, ◌*◌, ◌≤◌, List, ◌++◌, length}
use Rattle.toml.specs.Data.{array, table, Items, Members}
use Rattle.manifest_bytes.specs.Numbers.{number_bytes}
use Rattle.manifest_bytes.specs.Encoded.{item_count, items_bytes, member_count, members_bytes}
use Rattle.manifest_bytes.specs.Held.{FitsValue}
use Rattle.manifest_bytes.proofs.ItemLemmas.{ItemsLeft}
use Rattle.manifest_bytes.proofs.MemberLemmas.{MembersLeft}
use Rattle.manifest_bytes.proofs.reading.+reading.Given as goal

abbrev pub decreases-read_items : goal.decreases-read_items
decreases-read_items l = 2 * l.deepest + 1

abbrev pub decreases-read_members : goal.decreases-read_members
decreases-read_members l = 2 * l.deepest + 1

abbrev pub decreases-read_value : goal.decreases-read_value
decreases-read_value l = 2 * l.deepest

-- of each items whose bytes stood there, those that were read, and the bytes of the others; so with the members
abbrev pub invariant-read_items-loop : goal.invariant-read_items-loop
invariant-read_items-loop l = record {
  left : (ds : Items) (rest : List ℕ) → FitsValue (array ds) →
      l.fn.reader.left.now ≡ (number_bytes (item_count ds) ++ items_bytes ds) ++ rest →
      (item_count ds ≡ l.count)
      × (length l.items.items ≡ l.counter)
      × ItemsLeft ds l.items.items l.deepest l.reader.left.now rest;
  fewer : length l.reader.left.now ≤ length l.fn.reader.left.now;
}

abbrev pub invariant-read_members-loop : goal.invariant-read_members-loop
invariant-read_members-loop l = record {
  left : (ms : Members) (rest : List ℕ) → FitsValue (table ms) →
      l.fn.reader.left.now ≡ (number_bytes (member_count ms) ++ members_bytes ms) ++ rest →
      (member_count ms ≡ l.count)
      × (length l.members.entries ≡ l.counter)
      × MembersLeft ms l.members.entries l.deepest l.reader.left.now rest;
  fewer : length l.reader.left.now ≤ length l.fn.reader.left.now;
}
