-- A map that is made of another, entry by entry.
use Rattle.manifest_schema.specs.Prelude.{nat_list_cmp_total, slice_cmp, AllByRecursion, ordering_reverse, insert_entry, keys_of, string_cmp}
use Rattle.std.proofs.Common.{◌≡◌, ℕ, List, [], ◌∷◌, ◌++◌, map, String, Global, Less, Greater, nat_cmp, string_bytes, refl, ap, ◌∙◌, get_or, drop, length, arith}
use Rattle.std.specs.List.Sorted.{IsStrictlySortedBy}

-- the texts of the keys
abbrev pub texts : {X : Type 0} → List (String Global × X) → List (List ℕ)
texts es = map (λ e. string_bytes e.0) es

pub key_below : {X : Type 0} (first : String Global × X) (es : List (String Global × X)) (e : String Global × X)
    (more : List (String Global × X))
    → AllByRecursion (λ y. string_cmp first.0 y ≡ Less) (keys_of (es ++ e ∷ more)) → string_cmp first.0 e.0 ≡ Less
key_below first [] e more h = h.0
key_below first (x ∷ es) e more h = key_below first es e more h.1

-- A key that is above the keys before it goes last.
pub insert_last : {X Y : Type 0} (es : List (String Global × X)) (done : List (String Global × Y)) (e : String Global
    × Y) (more : List (String Global × Y)) (name : String Global) (v : X)
    → texts es ≡ texts done → string_bytes name ≡ string_bytes e.0 → IsStrictlySortedBy string_cmp
    (keys_of (done ++ e ∷ more))
    → insert_entry string_cmp es name v ≡ es ++ (name, v) ∷ []
unfolding IsStrictlySortedBy
insert_last [] done e more name v same named h = refl
insert_last (x ∷ es) [] e more name v same named h = absurd (omega (arith, ap length same))
insert_last (x ∷ es) (first ∷ done) e more name v same named h =
    let heads : string_bytes x.0 ≡ string_bytes first.0 = ap (λ ks. get_or ks 0 (string_bytes x.0)) same in
    let tails : texts es ≡ texts done = ap (drop 1) same in
    let above : slice_cmp nat_cmp (string_bytes name) (string_bytes x.0) ≡ Greater =
    rw (heads, named) (nat_list_cmp_total.antisymm (string_bytes e.0) (string_bytes first.0)
    ∙ ap ordering_reverse (key_below first done e more h.0)) in
    rw above (ap (λ t. x ∷ t) (insert_last es done e more name v tails named h.1))
