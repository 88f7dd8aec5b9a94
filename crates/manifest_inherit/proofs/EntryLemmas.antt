-- The keys of a map that is resolved entry by entry.
use Rattle.manifest_schema.specs.Prelude.{slice_cmp, AllByRecursion, keys_of, string_cmp, Text, Entries}
use Rattle.std.proofs.Common.{◌≡◌, List, [], ◌∷◌, String, Global, string_bytes, ap, get_or, Less, nat_cmp}
use Rattle.std.specs.List.Sorted.{IsStrictlySortedBy}
use Rattle.manifest_value.specs.Entries.{entries_content}
use Rattle.manifest_inherit.specs.Resolved.{resolved_entries}

-- THE KEYS of a map that is resolved ascend as they did
below_as : {X A : Type 0} (g : Text → A → A) (f : X → A) (k l : String Global) (es fs : List (String Global × X))
    → string_bytes k ≡ string_bytes l
    → entries_content f es ≡ resolved_entries g (entries_content f fs) → AllByRecursion (λ y. string_cmp l y ≡ Less)
    (keys_of fs) → AllByRecursion (λ y. string_cmp k y ≡ Less) (keys_of es)
below_as g f k l [] fs same h below = tt
below_as g f k l (x ∷ es) [] same h below = cc
below_as {A = A} g f k l (x ∷ es) (y ∷ fs) same h below =
    let key = ap (λ (ts : Entries A). (get_or ts 0 (string_bytes x.0, f x.1)).0) h in
    let tails : entries_content f es ≡ resolved_entries g (entries_content f fs) = cc in
    let head : slice_cmp nat_cmp (string_bytes k) (string_bytes x.0) ≡ Less = rw (same, key) below.0 in
    (head, below_as g f k l es fs same tails below.1)

pub ascend_as : {X A : Type 0} (g : Text → A → A) (f : X → A) (es fs : List (String Global × X))
    → entries_content f es ≡ resolved_entries g (entries_content f fs) → IsStrictlySortedBy string_cmp (keys_of fs)
    → IsStrictlySortedBy string_cmp (keys_of es)
unfolding IsStrictlySortedBy
ascend_as g f [] fs h s = tt
ascend_as g f (x ∷ es) [] h s = cc
ascend_as {A = A} g f (x ∷ es) (y ∷ fs) h s =
    let key = ap (λ (ts : Entries A). (get_or ts 0 (string_bytes x.0, f x.1)).0) h in
    let tails : entries_content f es ≡ resolved_entries g (entries_content f fs) = cc in
    (below_as g f x.0 y.0 es fs key tails s.0, ascend_as g f es fs tails s.1)
