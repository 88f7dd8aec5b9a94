use Rattle.std.proofs.Common.{◌≡◌, map, drop}
use Rattle.manifest_schema.specs.Slots.{is_among}
use Rattle.manifest_value.specs.Walks.{spellings_view, all_words}
use Rattle.manifest_value.proofs.walking.row_of.Given as goal

-- the key is no spelling of the rows so far
abbrev pub invariant-loop-i : goal.invariant-loop-i
invariant-loop-i l = is_among (all_words (map spellings_view l.rows)) l.key ≡ is_among
    (all_words (map spellings_view (drop l.i l.rows))) l.key
