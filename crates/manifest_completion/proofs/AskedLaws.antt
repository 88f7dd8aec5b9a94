-- All path texts that are asked differ.
use Rattle.manifest_schema.specs.Prelude.{append_assoc, flat_map, AllByRecursion, bytes_eq, Text, Package}
use Rattle.std.proofs.Common.{◌≡◌, ℕ, List, [], ◌∷◌, ◌++◌, Bool, true, false, refl, ap, sym, ◌∙◌, map, Option, Some, None, if◌then◌else◌, nat_eq, subst}
use Rattle.std.specs.List.{IsDistinct}
use Rattle.manifest_completion.specs.Listings.{Answer, is_memory_fault, TargetFolder, Bins, Examples, Tests, Benches, target_folders, by_folder, Place, source, folder, entry, root, names_of, joined, folder_text, path_text, ListingMap, at, HasNoNameTwice}
use Rattle.manifest_completion.specs.Completed.{PackageTargets, folder_places, target_places, root_places, up_to_memory_fault, stops_at_source, asks_root, asked_targets, asked_by, targets_of}
use Rattle.manifest_completion.specs.Laws.{AskedDiffer, AscendingDiffer}
use Rattle.manifest_completion.proofs.AskLemmas.{ascending_differ, every}

-- the path text of p is not that of any of these
abbrev AllApart : Place → List Place → Type 0
AllApart p ps = AllByRecursion (λ y. bytes_eq (path_text p) y ≡ false) (map path_text ps)

-- the path texts of these differ
abbrev Differ : List Place → Type 0
Differ ps = IsDistinct bytes_eq (map path_text ps)

-- those of the first differ from those of the second
abbrev Across : List Place → List Place → Type 0
Across ps qs = AllByRecursion (λ p. AllApart p qs) ps

-- LISTS
apart_append : (p : Place) (xs ys : List Place) → AllApart p xs → AllApart p ys → AllApart p (xs ++ ys)
apart_append p [] ys h k = k
apart_append p (x ∷ xs) ys h k = (h.0, apart_append p xs ys h.1 k)

across_append : (ps xs ys : List Place) → Across ps xs → Across ps ys → Across ps (xs ++ ys)
across_append [] xs ys h k = tt
across_append (p ∷ ps) xs ys h k = (apart_append p xs ys h.0 k.0, across_append ps xs ys h.1 k.1)

differ_append : (xs ys : List Place) → Differ xs → Differ ys → Across xs ys → Differ (xs ++ ys)
unfolding IsDistinct
differ_append [] ys h k a = k
differ_append (x ∷ xs) ys h k a = (apart_append x xs ys h.0 a.0, differ_append xs ys h.1 k a.1)

apart_up_to : (f : Place → Answer) (p : Place) (ps : List Place) → AllApart p ps → AllApart p (up_to_memory_fault f ps)
apart_up_to f p [] h = tt
apart_up_to f p (q ∷ ps) h = (h.0, one (is_memory_fault (f q)) (apart_up_to f p ps h.1))
  where
    one : (b : Bool) → AllApart p (up_to_memory_fault f ps) → AllApart p (if b then [] else up_to_memory_fault f ps)
    one true k = tt
    one false k = k

differ_up_to : (f : Place → Answer) (ps : List Place) → Differ ps → Differ (up_to_memory_fault f ps)
unfolding IsDistinct
differ_up_to f [] h = tt
differ_up_to f (p ∷ ps) h = one (is_memory_fault (f p)) (apart_up_to f p ps h.0) (differ_up_to f ps h.1)
  where
    one : (b : Bool) → AllApart p (up_to_memory_fault f ps) → Differ (up_to_memory_fault f ps)
        → Differ (p ∷ (if b then [] else up_to_memory_fault f ps))
    one true a k = (tt, tt)
    one false a k = (a, k)

-- ONE FOLDER
folder_apart : (d : TargetFolder) (n : Text) → bytes_eq (path_text (folder d)) (path_text (entry d n)) ≡ false
folder_apart Bins n = refl
folder_apart Examples n = refl
folder_apart Tests n = refl
folder_apart Benches n = refl

entry_eq : (d : TargetFolder) (n m : Text) → bytes_eq (path_text (entry d n)) (path_text (entry d m)) ≡ bytes_eq n m
entry_eq Bins n m = refl
entry_eq Examples n m = refl
entry_eq Tests n m = refl
entry_eq Benches n m = refl

all_apart : (p : Place) (d : TargetFolder) (ns : List Text)
    → ((n : Text) → bytes_eq (path_text p) (path_text (entry d n)) ≡ false) → AllApart p (map (entry d) ns)
all_apart p d [] h = tt
all_apart p d (n ∷ ns) h = (h n, all_apart p d ns h)

entry_all_apart : (d : TargetFolder) (n : Text) (ns : List Text) → AllByRecursion (λ m. bytes_eq n m ≡ false) ns
    → AllApart (entry d n) (map (entry d) ns)
entry_all_apart d n [] h = tt
entry_all_apart d n (m ∷ ns) h = (entry_eq d n m ∙ h.0, entry_all_apart d n ns h.1)

entries_differ : (d : TargetFolder) (ns : List Text) → IsDistinct bytes_eq ns → Differ (map (entry d) ns)
unfolding IsDistinct
entries_differ d [] h = tt
entries_differ d (n ∷ ns) h = (entry_all_apart d n ns h.0, entries_differ d ns h.1)

places_differ : (l : ListingMap) (d : TargetFolder) → HasNoNameTwice l → Differ (folder_places l d)
unfolding IsDistinct
places_differ l d h = (
  all_apart (folder d) d (names_of (at l (folder d))) (folder_apart d),
  entries_differ d
      (names_of (at l (folder d))) (h (folder d)),
)

-- PLACES BY THE FIRST BYTE of their text
abbrev folder_byte : TargetFolder → ℕ
folder_byte d = by_folder 115 101 116 98 d

abbrev byte : Place → ℕ
byte source = 115
byte (folder d) = folder_byte d
byte (entry d n) = folder_byte d
byte root = 46

folder_rest : (d : TargetFolder) → (t : Text) × (folder_text d ≡ folder_byte d ∷ t)
folder_rest Bins = (_, refl)
folder_rest Examples = (_, refl)
folder_rest Tests = (_, refl)
folder_rest Benches = (_, refl)

rest_of : (p : Place) → (t : Text) × (path_text p ≡ byte p ∷ t)
rest_of source = (_, refl)
rest_of root = (_, refl)
rest_of (folder d) = folder_rest d
rest_of (entry d n) = let r = folder_rest d in (joined r.0 n, ap (λ t. joined t n) r.1)

by_byte : (p q : Place) → nat_eq (byte p) (byte q) ≡ false → bytes_eq (path_text p) (path_text q) ≡ false
by_byte p q e = let x = rest_of p in let y = rest_of q in rw (x.1, y.1, e) refl

-- a place and a folder with another first byte
folder_by_byte : (p : Place) (d : TargetFolder) (ns : List Text) → nat_eq (byte p) (folder_byte d) ≡ false
    → AllApart p (folder d ∷ map (entry d) ns)
folder_by_byte p d ns e = (by_byte p (folder d) e, all_apart p d ns (λ n. by_byte p (entry d n) e))

-- the places of a folder and any places of which its first byte is not one
folder_across : (l : ListingMap) (d : TargetFolder) (qs : List Place) → ((p : Place) → byte p ≡ folder_byte d
    → AllApart p qs) → Across (folder_places l d) qs
folder_across l d qs h = (h (folder d) refl, entries (names_of (at l (folder d))))
  where
    entries : (ms : List Text) → Across (map (entry d) ms) qs
    entries [] = tt
    entries (m ∷ ms) = (h (entry d m) refl, entries ms)

-- ALL PLACES: those of some folders, and then these
abbrev pub places_of : ListingMap → List Place → List TargetFolder → List Place
places_of l rest [] = rest
places_of l rest (d ∷ ds) = folder_places l d ++ places_of l rest ds

pub together : (l : ListingMap) (rest : List Place) (ds : List TargetFolder)
    → places_of l rest ds ≡ flat_map (folder_places l) ds ++ rest
together l rest [] = refl
together l rest (d ∷ ds) = ap (λ (ps : List Place). folder_places l d ++ ps) (together l rest ds)
    ∙ sym (append_assoc (folder_places l d) (flat_map (folder_places l) ds) rest)

-- none of these folders has this first byte
abbrev NoneBegins : ℕ → List TargetFolder → Type 0
NoneBegins b ds = AllByRecursion (λ d. nat_eq b (folder_byte d) ≡ false) ds

apart_from_all : (l : ListingMap) (rest : List Place) (p : Place) (ds : List TargetFolder) → NoneBegins (byte p) ds
    → AllApart p rest → AllApart p (places_of l rest ds)
apart_from_all l rest p [] h r = r
apart_from_all l rest p (d ∷ ds) h r = apart_append p (folder_places l d) (places_of l rest ds)
    (folder_by_byte p d (names_of (at l (folder d))) h.0) (apart_from_all l rest p ds h.1 r)

at_root : (asks : Bool) (p : Place) → nat_eq (byte p) 46 ≡ false → AllApart p (root_places asks)
at_root true p e = (by_byte p root e, tt)
at_root false p e = tt

root_differs : (asks : Bool) → Differ (root_places asks)
unfolding IsDistinct
root_differs true = (tt, tt)
root_differs false = tt

all_differ : (l : ListingMap) (asks : Bool) (ds : List TargetFolder) → HasNoNameTwice l
    → IsDistinct (λ d e. nat_eq (folder_byte d) (folder_byte e)) ds → Differ (places_of l (root_places asks) ds)
unfolding IsDistinct
all_differ l asks [] h e = root_differs asks
all_differ l asks (d ∷ ds) h e =
    differ_append (folder_places l d) (places_of l (root_places asks) ds) (places_differ l d h)
    (all_differ l asks ds h e.1) (folder_across l d (places_of l (root_places asks) ds)
    (λ p b. apart_from_all l (root_places asks) p ds (rw b e.0) (at_root asks p (rw b (no_root d)))))
  where
    no_root : (f : TargetFolder) → nat_eq (folder_byte f) 46 ≡ false
    no_root = every (λ f. nat_eq (folder_byte f) 46 ≡ false) (refl, (refl, (refl, (refl, tt))))

source_apart : (l : ListingMap) (asks : Bool) → AllApart source (places_of l (root_places asks) target_folders)
source_apart l asks =
    apart_append source (folder_places l Bins) _
    (refl, all_apart source Bins (names_of (at l (folder Bins))) (λ n. refl))
    (apart_from_all l (root_places asks) source (Examples ∷ Tests ∷ Benches ∷ []) (refl, (refl, (refl, tt)))
    (at_root asks source refl))

targets_differ : (t : PackageTargets) (l : ListingMap) → HasNoNameTwice l → Differ (asked_targets t l)
unfolding IsDistinct
targets_differ t l h =
    let asks = asks_root t.build in let ps = target_places l ++ root_places asks in
    let same = together l (root_places asks) target_folders in
    let all : Differ ps = subst Differ same (all_differ l asks target_folders h
    ((refl, (refl, (refl, tt))), ((refl, (refl, tt)), ((refl, tt), (tt, tt))))) in
    let first : AllApart source ps = subst (AllApart source) same (source_apart l asks) in
    one (stops_at_source t l.source) (apart_up_to (at l) source ps first) (differ_up_to (at l) ps all)
  where
    one : (b : Bool) → AllApart source (up_to_memory_fault (at l) (target_places l ++ root_places (asks_root t.build)))
        → Differ (up_to_memory_fault (at l) (target_places l ++ root_places (asks_root t.build)))
        → Differ (source ∷ (if b then [] else up_to_memory_fault (at l) (target_places l
        ++ root_places (asks_root t.build))))
    one true a d = (tt, tt)
    one false a d = (a, d)

pub asked_differ : AskedDiffer
unfolding IsDistinct
asked_differ m l h = one m.«package»
  where
    one : (o : Option Package) → Differ (asked_by o m l)
    one None = tt
    one (Some p) = targets_differ (targets_of p m) l h

pub no_name_twice : AscendingDiffer
no_name_twice l h p = ascending_differ (names_of (at l p)) (h p)
