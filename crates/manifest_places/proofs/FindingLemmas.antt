-- Where that stands which is found: one more, and what more nodes say.
use Rattle.std.proofs.Common.{◌≡◌, ℕ, ◌+◌, ◌<◌, List, [], ◌∷◌, ◌++◌, length, take, get_or, map, refl, sym, ap, subst, ◌∙◌, append-nil, append_assoc, Vec, Global, rules}
use Rattle.std.proofs.lemmas.List.{map-append, take_more}
use Rattle.std.proofs.lemmas.Slice.Zip.{all_zipped_more}
use Rattle.manifest_fault.proofs.FindingTrees.{within, below-under}
use Rattle.manifest_fault.specs.Faults.{step_of, path_of as key_path_of}
use Rattle.manifest_fault.specs.Placed.{placed_in, placed_among, placed_below}
use Rattle.manifest_fault.specs.Found.{findings_of}
use Rattle.manifest_fault.specs.declared.fault.KeyPath.{KeyPath}
use Rattle.manifest_fault.specs.declared.fault.Step.{Step}
use Rattle.manifest_fault.specs.declared.findings.FindingNode.{FindingNode, Here, Within, the_lemmas}
use Rattle.manifest_fault.specs.declared.schema_findings.Finding.{Finding}
use Rattle.manifest_places.specs.Paths.{Path}
use Rattle.manifest_places.specs.Located.{IsLocated}
use Rattle.manifest_places.specs.Findings.{AreLocated, paths_by, paths_below, finding_paths, path_to_finding}
use Rattle.manifest_places.specs.declared.finding.Places.{Places}
use Rattle.manifest_places.specs.declared.located.Located.{Located}

-- the items up to the next one
first_more : {X : Type 0} (xs : List X) (i : ℕ) (x : X) → i < length xs → x ≡ get_or xs i x
    → take (i + 1) xs ≡ take i xs ++ x ∷ []
first_more xs i x short read = take_more xs i x short ∙ ap (λ y. take i xs ++ y ∷ []) (sym read)

-- what one node more says
among_more : {C : Type 0} (ns : List (FindingNode C)) (n : FindingNode C) → placed_among (ns ++ n ∷ [])
    ≡ placed_among ns ++ placed_in n
among_more [] n = append-nil (placed_in n)
among_more (m ∷ ns) n =
    ap (λ fs. placed_in m ++ fs) (among_more ns n) ∙ sym (append_assoc (placed_in m) (placed_among ns) (placed_in n))

module _ {C : Type 0} (leads : Path → C → Path) where
  -- what one node of a thing says
  said_here : (p : Path) (c : C) → paths_below leads p (placed_in (Here c)) ≡ leads p c ∷ []
  said_here p c =
      let one : placed_in (Here c) ≡ ([], c) ∷ [] = search (rules, the_lemmas) in
      ap (paths_below leads p) one ∙ ap (λ q. leads q c ∷ []) (append-nil p)

  -- one thing more
  pub one_more : (ps : Places) (before : List Path) (ls ms : List Located) (l : Located) (p : Path)
      (n : FindingNode C) (c : C) → n ≡ Here c → ms ≡ ls ++ l ∷ [] → IsLocated ps (leads p c) l
      → AreLocated ps before ls → AreLocated ps (before ++ paths_below leads p (placed_in n)) ms
  one_more ps before ls ms l p n c is more here all =
      let at = ap (λ m. before ++ paths_below leads p (placed_in m)) is ∙ ap (λ qs. before ++ qs) (said_here p c) in
      subst (λ qs. AreLocated ps qs ms) (sym at)
      (subst (AreLocated ps (before ++ leads p c ∷ [])) (sym more)
      (all_zipped_more (IsLocated ps) before ls (leads p c) l all here))

  -- what a node says of the value that a step leads to
  pub more_within : (ps : Places) (before : List Path) (ms : List Located) (p q : Path)
      (n : FindingNode C) (s : Step) (inside : Vec (FindingNode C) Global) → n ≡ Within s inside
      → q ≡ p ++ step_of s ∷ [] → AreLocated ps (before ++ paths_below leads q (placed_among inside.items)) ms
      → AreLocated ps (before ++ paths_below leads p (placed_in n)) ms
  more_within ps before ms p q n s inside is at all =
      let fs = placed_among inside.items in
      let below : placed_below q fs ≡ placed_below p (placed_in n)
      = ap (λ r. placed_below r fs) at ∙ below-under p (step_of s) fs
      ∙ ap (placed_below p) (sym (ap placed_in is ∙ within s inside)) in
      subst (λ gs. AreLocated ps (before ++ paths_by leads gs) ms) below all

  below-append : (p : Path) (fs gs : List (Path × C)) → paths_below leads p (fs ++ gs)
      ≡ paths_below leads p fs ++ paths_below leads p gs
  below-append p fs gs =
      ap (paths_by leads) (map-append (λ (f : Path × C). (p ++ f.0, f.1)) fs gs)
      ∙ map-append (λ (f : Path × C). leads f.0 f.1) (placed_below p fs) (placed_below p gs)

  -- what one node more says of the value at the path
  pub more_nodes : (ps : Places) (before : List Path) (ms : List Located) (p q : Path)
      (ns : List (FindingNode C)) (i : ℕ) (n : FindingNode C) → i < length ns → n ≡ get_or ns i n → q ≡ p
      → AreLocated ps ((before ++ paths_below leads p (placed_among (take i ns)))
      ++ paths_below leads q (placed_in n)) ms
      → AreLocated ps (before ++ paths_below leads p (placed_among (take (i + 1) ns))) ms
  more_nodes ps before ms p q ns i n short read same all =
      let so_far = paths_below leads p (placed_among (take i ns)) in
      let next = ap (λ xs. paths_below leads p (placed_among xs)) (first_more ns i n short read)
      ∙ ap (paths_below leads p) (among_more (take i ns) n)
      ∙ below-append p (placed_among (take i ns)) (placed_in n) in
      let is = ap (λ r. (before ++ so_far) ++ paths_below leads r (placed_in n)) same
      ∙ append_assoc before so_far (paths_below leads p (placed_in n))
      ∙ ap (λ qs. before ++ qs) (sym next) in
      subst (λ qs. AreLocated ps qs ms) is all

  -- what is found in the whole value
  pub paths_at_top : (fs : List (Path × C)) → paths_below leads [] fs ≡ paths_by leads fs
  paths_at_top [] = refl
  paths_at_top ((p, c) ∷ fs) = ap (λ qs. leads p c ∷ qs) (paths_at_top fs)

-- the findings of the schema are looked for at their paths
pub paths_to_findings : (fs : List (Path × Finding)) → paths_by path_to_finding fs ≡ finding_paths (findings_of fs)
paths_to_findings [] = refl
paths_to_findings ((p, f) ∷ fs) = ap (λ qs. path_to_finding p f ∷ qs) (paths_to_findings fs)

-- one path more
pub one_path_more : (ps : Places) (all : List KeyPath) (i : ℕ) (p : KeyPath) (ls ms : List Located) (l : Located)
    → i < length all → p ≡ get_or all i p → ms ≡ ls ++ l ∷ [] → IsLocated ps (key_path_of p) l
    → AreLocated ps (map key_path_of (take i all)) ls → AreLocated ps (map key_path_of (take (i + 1) all)) ms
one_path_more ps all i p ls ms l short read more here before =
    let next = ap (map key_path_of) (first_more all i p short read) ∙ map-append key_path_of (take i all) (p ∷ []) in
    subst (λ qs. AreLocated ps qs ms) (sym next)
    (subst (AreLocated ps (map key_path_of (take i all) ++ key_path_of p ∷ [])) (sym more)
    (all_zipped_more (IsLocated ps) (map key_path_of (take i all)) ls (key_path_of p) l before here))
