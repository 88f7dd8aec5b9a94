use Rattle.manifest_schema.specs.Prelude.{Members, join, without}
use Rattle.std.proofs.Common.{◌≡◌, length, map}
use Rattle.manifest_value.specs.Sources.{members_of, row_view, rest_view, entries_view}
use Rattle.manifest_value.specs.Walks.{spellings_view, all_words, slots_at}
use Rattle.manifest_value.proofs.walking.walk.Given as goal

-- what the entries so far hold
abbrev pub invariant-loop-key : goal.invariant-loop-key
invariant-loop-key l =
    (done : Members) × (members_of l.fn.table ≡ join done (entries_view l.key-iterator))
    × (length l.slots.items ≡ length l.rows)
    × (map row_view l.slots.items ≡ slots_at (map spellings_view l.rows) done)
    × (rest_view l.rest.items ≡ without (all_words (map spellings_view l.rows)) done)
