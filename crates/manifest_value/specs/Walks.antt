-- What a walk over a table finds, as the definitions see it.
use Rattle.manifest_schema.specs.Prelude.{slice_cmp, nat_cmp, Less, Data, Members, no_members, member, Text, Spellings, Slot, absent, one, clash, at, is_among, Rows, ◌⨾◌, spell, differ, spellings_of}
use Rattle.std.specs.Prelude.{◌≡◌, ℕ, zero, suc, Bool, true, false, ◌&&◌, List, [], ◌∷◌, Option, Some, None, option_copied}
use Rattle.manifest_value.specs.declared.spellings.Spellings.{Spellings as CodeSpellings}

-- SPELLINGS
-- the spellings of a row, as the definitions have them
abbrev pub spellings_view : CodeSpellings → Spellings
spellings_view s = spellings_of s.first.now (option_copied s.second)

-- the spellings of a form, row by row
abbrev pub names_of : {A : Type 0} → Rows A → List Spellings
names_of (r ⨾ rs) = r.spellings ∷ names_of rs
names_of _ = []

-- all spellings of some rows
abbrev pub all_words : List Spellings → List Text
all_words [] = []
all_words (s ∷ ss) = spell s (all_words ss)

-- all spellings differ
abbrev pub distinct_words : List Spellings → Bool
distinct_words [] = true
distinct_words (s ∷ ss) = differ s (all_words ss) && distinct_words ss

-- the key is a spelling of the row at this place
abbrev pub is_word_at : ℕ → List Spellings → Text → Bool
is_word_at i [] k = false
is_word_at zero (s ∷ ss) k = is_among (spell s []) k
is_word_at (suc i) (s ∷ ss) k = is_word_at i ss k

-- SLOTS
-- what a table holds for each row
abbrev pub slots_at : List Spellings → Members → List Slot
slots_at [] ms = []
slots_at (s ∷ ss) ms = at s ms ∷ slots_at ss ms

-- the value that a slot has: Some None where nothing stands there, and None where two spellings clash
abbrev pub value_in : Slot → Option (Option Data)
value_in absent = Some None
value_in (one k d) = Some (Some d)
value_in clash = None

-- a slot in which one more value is found
abbrev pub filled : Slot → Text → Data → Slot
filled absent k d = one k d
filled _ k d = clash

-- slots in one of which, at this place, one more value is found
abbrev pub filled_at : ℕ → Text → Data → List Slot → List Slot
filled_at i k d [] = []
filled_at zero k d (s ∷ ss) = filled s k d ∷ ss
filled_at (suc i) k d (s ∷ ss) = s ∷ filled_at i k d ss

-- THE ORDER OF KEYS
-- the key is below each key of the members
abbrev pub IsBelow : Text → Members → Type 0
IsBelow k no_members = Unit {0}
IsBelow k (member l d ms) = (slice_cmp nat_cmp k l ≡ Less) × IsBelow k ms

-- each key is below those after it
abbrev pub Ascend : Members → Type 0
Ascend no_members = Unit {0}
Ascend (member k d ms) = IsBelow k ms × Ascend ms
