use Rattle.manifest_schema.specs.Prelude.{without}
use Rattle.std.proofs.Common.{◌≡◌, map}
use Rattle.toml.proofs.Blanks.{join}
use Rattle.manifest_value.specs.Sources.{rest_view, entries_view}
use Rattle.manifest_value.specs.Walks.{spellings_view, all_words}
use Rattle.manifest_value.proofs.walking.entries_without.Given as goal

-- the others so far, and those of the entries that are to come
abbrev pub invariant-loop-name : goal.invariant-loop-name
invariant-loop-name l =
    let words = all_words (map spellings_view l.rows) in
    join (rest_view l.others.items) (without words (entries_view l.name-iterator)) ≡ without words
    (rest_view l.fn.entries.items)
