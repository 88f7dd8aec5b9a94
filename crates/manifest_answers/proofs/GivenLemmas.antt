-- Lemmas on folders that a caller passes in.
use Rattle.manifest_schema.specs.Prelude.{Bor, BTreeMap, get_by, slice_cmp, is_lt, bytes_eq, string_cmp, Ordering, Less, btree_map_updates_str, Text}
use Rattle.std.proofs.Common.{◌≡◌, ℕ, ◌<◌, length, List, [], ◌∷◌, ◌++◌, map, Option, Some, None, Bool, true, false, cond, String, Global, string_bytes, nat_cmp, refl, sym, ap, get_or, option_map, is_some, if◌then◌else◌}
use Rattle.std.specs.BTreeMap as tree
use Rattle.std.specs.BTreeSet.{insert_key}
use Rattle.std.specs.List.{AllByRecursion}
use Rattle.std.proofs.ByRecursion.{All-get_or}
use Rattle.std.specs.declared.cmp.Ordering.TheVariants.{Equal, Greater}
use Rattle.manifest_completion.specs.Listings.{Answer}
use Rattle.manifest_completion.proofs.IndexLemmas.{bytes_eq-sym}
use Rattle.manifest_answers.specs.declared.folders.Folder.{Folder}
use Rattle.manifest_answers.specs.declared.folders.Listed.{Listed}
use Rattle.manifest_answers.specs.declared.refusal.Refusal.{Refusal}
use Rattle.manifest_answers.specs.declared.refusal.Refusal.TheVariants.{Bytes, Root, Listings, Finishing, Printing, TooLong, Edits, NotText, Offsets, Configuration, Memory}
use Rattle.manifest_answers.specs.Made.{RefusesUnless}
use Rattle.manifest_answers.specs.Edited.{RefusesUnlessText}
use Rattle.manifest_answers.specs.Given.{texts, AreInOrder, AreNames, AreListings, goes_before, folder_answer, folder_at, listed_answer, listed_at}

-- NAMES
in_order_rest : (n : Text) (ns : List Text) → AreInOrder (n ∷ ns) → AreInOrder ns
in_order_rest n [] h = tt
in_order_rest n (m ∷ ns) h = h.1

-- the last of some names are names
pub names_under : (front back : List (Bor Text)) → AreNames (texts (front ++ back)) → AreNames (texts back)
names_under [] back h = h
names_under (n ∷ front) back h = names_under front back (h.0.1, in_order_rest n.now (texts (front ++ back)) h.1)

is_lt_Less : (o : Ordering) → is_lt o ≡ true → o ≡ Less
is_lt_Less Less h = refl
is_lt_Less Equal h = cc
is_lt_Less Greater h = cc

-- the least of some names that ascend, where there are any
abbrev pub IsLeast : Option (Bor Text) → List Text → Type 0
IsLeast None [] = Unit {0}
IsLeast (Some t) (n ∷ ns) = t.now ≡ n
IsLeast _ _ = ⊥

-- one name more is before the least of the others exactly where they are in order with it
pub before_least : (least : Option (Bor Text)) (n : Text) (ns : List Text) → IsLeast least ns → AreInOrder (n ∷ ns)
    → goes_before n least ≡ true
before_least None n ns h o = refl
before_least (Some t) n [] h o = absurd h
before_least (Some t) n (m ∷ ns) h o = rw (h, o.0) refl

pub in_order_before : (least : Option (Bor Text)) (n : Text) (ns : List Text) → IsLeast least ns
    → goes_before n least ≡ true → AreInOrder ns → AreInOrder (n ∷ ns)
in_order_before None n [] h before o = tt
in_order_before None n (m ∷ ns) h before o = absurd h
in_order_before (Some t) n [] h before o = absurd h
in_order_before (Some t) n (m ∷ ns) h before o =
    let less : slice_cmp nat_cmp n t.now ≡ Less = is_lt_Less (slice_cmp nat_cmp n t.now) before in
    (rw h at less, o)

-- a name that is before those of a set goes first
pub insert_first : (ks : List (String Global)) (k : String Global) (ns : List Text) → map string_bytes ks ≡ ns
    → AreInOrder (string_bytes k ∷ ns)
    → map string_bytes (insert_key string_cmp ks k) ≡ string_bytes k ∷ ns
insert_first [] k ns same o = ap (λ ts. string_bytes k ∷ ts) same
insert_first (x ∷ ks) k [] same o = cc
insert_first (x ∷ ks) k (n ∷ ns) same o =
    let head : string_bytes x ≡ n = ap (λ (ts : List Text). get_or ts 0 n) same in
    let less : slice_cmp nat_cmp (string_bytes k) (string_bytes x) ≡ Less = rw head o.0 in
    rw less (ap (λ ts. string_bytes k ∷ ts) same)

-- FOLDERS
pub listings_under : (front back : List Folder) → AreListings (front ++ back) → AreListings back
listings_under [] back h = h
listings_under (f ∷ front) back h = listings_under front back h.2

-- one folder more in the map, before those that are there
pub one_listed : (m n : BTreeMap (Bor Text) Listed) (path : Bor Text) (l : Listed) (f : Folder) (fs : List Folder)
    → path.now ≡ f.path.now → listed_answer l ≡ folder_answer f →
    tree.Updates (λ x y. slice_cmp nat_cmp x.now y.now) m n path (Some l)
    → ((q : Text) → listed_at m q ≡ folder_at fs q) → (q : Text) → listed_at n q ≡ folder_at (f ∷ fs) q
one_listed m n path l f fs named here updates had q =
    rw (btree_map_updates_str path.now m n (Some l) updates q, named, bytes_eq-sym f.path.now q)
    (one (bytes_eq q f.path.now) (get_by (λ (k : Bor Text). slice_cmp nat_cmp q k.now) m) (had q))
  where
    one : (b : Bool) (o : Option Listed) → option_map listed_answer o ≡ folder_at fs q → option_map listed_answer
        (cond b (Some l) o) ≡ (if b then Some (folder_answer f) else folder_at fs q)
    one true o e = ap Some here
    one false o e = e

-- a path that a map has is that of a folder
pub was_there : (o : Option Listed) (a : Option Answer) → option_map listed_answer o ≡ a → is_some o ≡ true → a ≡ None
    → ⊥
was_there None a same had none = cc
was_there (Some l) a same had none = cc

pub was_not_there : (o : Option Listed) (a : Option Answer) → option_map listed_answer o ≡ a → is_some o ≡ false
    → a ≡ None
was_not_there None a same had = sym same
was_not_there (Some l) a same had = cc

-- what refuses a part refuses the whole
pub refuses_more : (P Q : Type 0) (r : Refusal) → (Q → P) → RefusesUnless P r → RefusesUnless Q r
refuses_more P Q Listings w h = λ q. h (w q)
refuses_more P Q (Memory e) w h = tt
refuses_more P Q (Bytes e) w h = absurd h
refuses_more P Q (Root e) w h = absurd h
refuses_more P Q (Finishing e) w h = absurd h
refuses_more P Q (Printing e) w h = absurd h
refuses_more P Q TooLong w h = absurd h
refuses_more P Q (Edits e) w h = absurd h
refuses_more P Q NotText w h = absurd h
refuses_more P Q Offsets w h = absurd h
refuses_more P Q Configuration w h = absurd h

-- what is no text refuses whatever asks for it
pub refuses_more_texts : (P Q : Type 0) (r : Refusal) → (Q → P) → RefusesUnlessText P r → RefusesUnlessText Q r
refuses_more_texts P Q NotText w h = λ q. h (w q)
refuses_more_texts P Q (Memory e) w h = tt
refuses_more_texts P Q (Bytes e) w h = absurd h
refuses_more_texts P Q (Root e) w h = absurd h
refuses_more_texts P Q (Finishing e) w h = absurd h
refuses_more_texts P Q (Printing e) w h = absurd h
refuses_more_texts P Q TooLong w h = absurd h
refuses_more_texts P Q (Edits e) w h = absurd h
refuses_more_texts P Q Listings w h = absurd h
refuses_more_texts P Q Offsets w h = absurd h
refuses_more_texts P Q Configuration w h = absurd h

-- one that is no text is one too many
pub refuses_all_texts : {A : Type 0} (P : A → Type 0) (xs : List A) (i : ℕ) (d : A) (r : Refusal) → i < length xs
    → RefusesUnlessText (P (get_or xs i d)) r → RefusesUnlessText (AllByRecursion P xs) r
refuses_all_texts P xs i d r there h =
    refuses_more_texts (P (get_or xs i d)) (AllByRecursion P xs) r (All-get_or P xs i d there) h
