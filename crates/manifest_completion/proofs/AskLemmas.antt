-- Lemmas on what is answered at a folder and at its entries.
use Rattle.manifest_schema.specs.Prelude.{Global, Less, AllZip, AllByRecursion, nat_cmp, is_eq, slice_cmp, bytes_eq, string_cmp, is_eq-slice_cmp, Text}
use Rattle.std.proofs.Common.{◌≡◌, List, [], ◌∷◌, ◌++◌, true, false, refl, ap, sym, ◌∙◌, String, map, string_bytes}
use Rattle.std.specs.List.{IsDistinct}
use Rattle.std.specs.List.Sorted.{IsStrictlySortedBy}
use Rattle.manifest_completion.specs.Listings.{Answer, joined, is_memory_fault, TargetFolder, Bins, Examples, Tests, Benches, target_folders, IsAscending}
use Rattle.manifest_completion.specs.Asking.{IsAllowedAnswer, AreAllowedAnswers}

-- FOLDERS: what holds of each of them
pub every : (P : TargetFolder → Type 0) → AllByRecursion P target_folders → (d : TargetFolder) → P d
every P h Bins = h.0
every P h Examples = h.1.0
every P h Tests = h.1.1.0
every P h Benches = h.1.1.1.0

-- NAMES of a set ascend
above : (x : String Global) (xs : List (String Global)) → AllByRecursion (λ y. string_cmp x y ≡ Less) xs
    → AllByRecursion (λ n. slice_cmp nat_cmp (string_bytes x) n ≡ Less) (map string_bytes xs)
above x [] h = tt
above x (y ∷ ys) h = (h.0, above x ys h.1)

pub set_ascends : (ks : List (String Global)) → IsStrictlySortedBy string_cmp ks → IsAscending (map string_bytes ks)
unfolding IsStrictlySortedBy
set_ascends [] h = tt
set_ascends (k ∷ ks) h = (above k ks h.0, set_ascends ks h.1)

pub none_ascend : IsAscending []
unfolding IsStrictlySortedBy
none_ascend = tt

-- NAMES that ascend differ
below_differs : (a b : Text) → slice_cmp nat_cmp a b ≡ Less → bytes_eq a b ≡ false
below_differs a b h = sym (is_eq-slice_cmp a b) ∙ ap is_eq h

none_same : (n : Text) (ns : List Text) → AllByRecursion (λ m. slice_cmp nat_cmp n m ≡ Less) ns
    → AllByRecursion (λ m. bytes_eq n m ≡ false) ns
none_same n [] h = tt
none_same n (m ∷ ns) h = (below_differs n m h.0, none_same n ns h.1)

pub ascending_differ : (ns : List Text) → IsAscending ns → IsDistinct bytes_eq ns
unfolding IsStrictlySortedBy IsDistinct
ascending_differ [] h = tt
ascending_differ (n ∷ ns) h = (none_same n ns h.0, ascending_differ ns h.1)

-- ENTRIES
module _ (allows : Text → Answer → Type 0) (d : Text) where
  abbrev pub Answered : Text → Answer → Type 0
  Answered n a = IsAllowedAnswer allows (joined d n) a × (is_memory_fault a ≡ false)

  -- each entry was asked, and found memory
  pub entries_all : (ns : List Text) (given : List Answer) → AllZip Answered ns given → AreAllowedAnswers allows d ns
      given
  entries_all [] [] h = tt
  entries_all [] (a ∷ given) h = absurd h
  entries_all (n ∷ ns) [] h = absurd h
  entries_all (n ∷ ns) (a ∷ given) h = (h.0.0, rw h.0.1 (entries_all ns given h.1))

  -- the last one that was asked found none
  pub entries_stop : (ns : List Text) (given : List Answer) (n : Text) (rest : List Text) (a : Answer)
      → AllZip Answered ns given → IsAllowedAnswer allows (joined d n) a → is_memory_fault a ≡ true
      → AreAllowedAnswers allows d (ns ++ n ∷ rest) (given ++ a ∷ [])
  entries_stop [] [] n rest a h ok e = (ok, rw e refl)
  entries_stop [] (b ∷ given) n rest a h ok e = absurd h
  entries_stop (m ∷ ns) [] n rest a h ok e = absurd h
  entries_stop (m ∷ ns) (b ∷ given) n rest a h ok e = (h.0.0, rw h.0.1 (entries_stop ns given n rest a h.1 ok e))
