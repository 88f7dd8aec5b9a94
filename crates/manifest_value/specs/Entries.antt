-- The entries of a map by what they hold, and what is read of the first entries of a table and first items of a list.
use Rattle.manifest_schema.specs.Prelude.{Global, Members, no_members, member, Kind, Entries}
use Rattle.std.specs.Prelude.{◌≡◌, List, [], ◌∷◌, map, String, string_bytes}

abbrev pub entries_content : {X A : Type 0} → (X → A) → List (String Global × X) → Entries A
entries_content f es = map (λ e. (string_bytes e.0, f e.1)) es

-- the entries are read of the first members, and the rest is left
abbrev pub reads_first : {A : Type 0} → Kind A → Members → Entries A → Members → Type 0
reads_first K ms [] rest = ms ≡ rest
reads_first K no_members (e ∷ es) rest = ⊥
reads_first K (member k d ms) (e ∷ es) rest = (k ≡ e.0) × K.reads d e.1 × reads_first K ms es rest
