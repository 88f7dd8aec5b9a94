use Rattle.std.proofs.Common.{◌≡◌, map}
use Rattle.manifest_schema.specs.Forms.{none_named}
use Rattle.manifest_value.specs.Entries.{entries_content}
use Rattle.manifest_value.specs.Walks.{spellings_view, all_words}
use Rattle.manifest_value.proofs.well_formed.none_is_named.Given as goal

-- no key so far is named
abbrev pub invariant-loop-key : goal.invariant-loop-key
invariant-loop-key g l =
    let words = all_words (map spellings_view l.rows) in
    none_named words (entries_content g.T.Schema.content l.all.entries) ≡ none_named words
    (entries_content g.T.Schema.content l.key-iterator)
