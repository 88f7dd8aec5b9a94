-- A completed list of targets is completed.
use Rattle.manifest_schema.specs.Prelude.{option_or, AllByRecursion, bytes_eq, or-false, or_cases, or_right, append-nil, append_assoc, list_any-append, bytes_eq-Decides, Text, Product}
use Rattle.std.proofs.Common.{◌≡◌, List, [], ◌∷◌, ◌++◌, Bool, true, false, refl, ap, sym, ◌∙◌, map, ◌||◌, Option, Some, None, if◌then◌else◌, subst, ⊎_elim}
use Rattle.std.proofs.lemmas.Bool.{or_left}
use Rattle.manifest_completion.specs.Finds.{Discovered}
use Rattle.manifest_completion.specs.Targets.{path_by_name, pathed, paths_with, paths_of, found, has_path, added, Defaults, with_defaults, targets}
use Rattle.manifest_completion.specs.Completed.{discovers}

pub or_idem : {A : Type 0} (a d : Option A) → option_or (option_or a d) d ≡ option_or a d
or_idem (Some x) d = refl
or_idem None None = refl
or_idem None (Some x) = refl

-- SETTLED: the target takes no path from the finds
abbrev Settled : List Discovered → Product → Type 0
Settled fs p = option_or p.path (path_by_name fs p.name) ≡ p.path

found_or : (o p d : Option Text) → option_or p o ≡ p → option_or (option_or p d) o ≡ option_or p d
found_or o (Some q) d e = refl
found_or o None None e = e
found_or o None (Some q) e = refl

filled_settled : (fs : List Discovered) (ps : List Product) → AllByRecursion (Settled fs) (map (pathed fs) ps)
filled_settled fs [] = tt
filled_settled fs (p ∷ ps) = (or_idem p.path (path_by_name fs p.name), filled_settled fs ps)

added_settled : (fs gs : List Discovered) (had : List Text) → AllByRecursion (Settled fs) (added had gs)
added_settled fs [] had = tt
added_settled fs (g ∷ gs) had = one (has_path had g.path) (added_settled fs gs (had ++ g.path ∷ []))
  where
    one : (b : Bool) → AllByRecursion (Settled fs) (added (had ++ g.path ∷ []) gs) → AllByRecursion (Settled fs)
        ((if b then [] else found g ∷ []) ++ added (had ++ g.path ∷ []) gs)
    one true k = k
    one false k = (refl, k)

append_settled : (fs : List Discovered) (xs ys : List Product) → AllByRecursion (Settled fs) xs
    → AllByRecursion (Settled fs) ys → AllByRecursion (Settled fs) (xs ++ ys)
append_settled fs [] ys h k = k
append_settled fs (x ∷ xs) ys h k = (h.0, append_settled fs xs ys h.1 k)

-- HAD: the path of each find is there, so that none is added
abbrev AllHad : List Text → List Discovered → Type 0
AllHad had fs = AllByRecursion (λ f. has_path had f.path ≡ true) fs

has_append : (xs ys : List Text) (q : Text) → has_path (xs ++ ys) q ≡ (has_path xs q || has_path ys q)
has_append xs ys q = list_any-append (bytes_eq q) xs ys

none_added : (had : List Text) (fs : List Discovered) → AllHad had fs → added had fs ≡ []
none_added had [] h = refl
none_added had (f ∷ fs) h = rw h.0 (none_added (had ++ f.path ∷ []) fs (more fs h.1))
  where
    more : (gs : List Discovered) → AllHad had gs → AllHad (had ++ f.path ∷ []) gs
    more [] k = tt
    more (g ∷ gs) k = (
      has_append had (f.path ∷ []) g.path ∙ or_left (has_path had g.path)
          (has_path (f.path ∷ []) g.path) k.0,
      more gs k.1,
    )

paths_append : (xs ys : List Product) → paths_of (xs ++ ys) ≡ paths_of xs ++ paths_of ys
paths_append [] ys = refl
paths_append (x ∷ xs) ys = one x.path (paths_append xs ys)
  where
    one : (o : Option Text) → paths_of (xs ++ ys) ≡ paths_of xs ++ paths_of ys
        → paths_with o (paths_of (xs ++ ys)) ≡ paths_with o (paths_of xs) ++ paths_of ys
    one None k = k
    one (Some q) k = ap (λ (zs : List Text). q ∷ zs) k

-- a path that is there stays, where targets take defaults
kept_path : (d : Defaults) (ps : List Product) (q : Text) → has_path (paths_of ps) q ≡ true
    → has_path (paths_of (map (with_defaults d) ps)) q ≡ true
kept_path d [] q h = h
kept_path d (p ∷ ps) q h = one p.path d.path (kept_path d ps q) h
  where
    kept_or : (x y z : Bool) → (y ≡ true → z ≡ true) → (x || y) ≡ true → (x || z) ≡ true
    kept_or true y z f k = refl
    kept_or false y z f k = f k

    one : (o e : Option Text) → (has_path (paths_of ps) q ≡ true → has_path (paths_of (map (with_defaults d) ps))
        q ≡ true)
        → has_path (paths_with o (paths_of ps)) q ≡ true
        → has_path (paths_with (option_or o e) (paths_of (map (with_defaults d) ps))) q ≡ true
    one None None f k = f k
    one None (Some r) f k = or_right (bytes_eq q r) (has_path (paths_of (map (with_defaults d) ps)) q) (f k)
    one (Some r) e f k = kept_or (bytes_eq q r) (has_path (paths_of ps) q)
        (has_path (paths_of (map (with_defaults d) ps)) q) f k

all_kept : (d : Defaults) (body : List Product) (fs : List Discovered) → AllHad (paths_of body) fs
    → AllHad (paths_of (map (with_defaults d) body)) fs
all_kept d body [] h = tt
all_kept d body (f ∷ fs) h = (kept_path d body f.path h.0, all_kept d body fs h.1)

-- after the finds were added, each of their paths is there
covers : (gs : List Discovered) (had base : List Text) → ((q : Text) → has_path had q ≡ true → has_path base q ≡ true)
    → AllHad (base ++ paths_of (added had gs)) gs
covers [] had base sub = tt
covers (g ∷ gs) had base sub = one (has_path had g.path) refl (λ (base' : List Text). covers gs (had ++ g.path ∷ [])
    base')
  where
    itself : bytes_eq g.path g.path ≡ true
    itself = (bytes_eq-Decides g.path g.path).1 refl

    in_more : (base' : List Text) → ((q : Text) → has_path had q ≡ true → has_path base' q ≡ true)
        → has_path base' g.path ≡ true → (q : Text) → has_path (had ++ g.path ∷ []) q ≡ true → has_path base' q ≡ true
    in_more base' f here q e = ⊎_elim (f q)
        (λ k. let same : q ≡ g.path = (bytes_eq-Decides q g.path).0 (sym (or-false (bytes_eq q g.path)) ∙ k) in
        rw same here)
        (or_cases (has_path had q) (has_path (g.path ∷ []) q) (sym (has_append had (g.path ∷ []) q) ∙ e))

    one : (b : Bool) → has_path had g.path ≡ b
        → ((base' : List Text) → ((q : Text) → has_path (had ++ g.path ∷ []) q ≡ true → has_path base' q ≡ true)
        → AllHad (base' ++ paths_of (added (had ++ g.path ∷ []) gs)) gs)
        → AllHad (base ++ paths_of ((if b then [] else found g ∷ []) ++ added (had ++ g.path ∷ []) gs)) (g ∷ gs)
    one true e k =
        let here = sub g.path e in (
          has_append base (paths_of (added (had ++ g.path ∷ []) gs)) g.path ∙ or_left (has_path base g.path)
              (has_path (paths_of (added (had ++ g.path ∷ []) gs)) g.path) here,
          k base (in_more base sub here),
        )
    one false e k =
        let rest = paths_of (added (had ++ g.path ∷ []) gs) in let wider = base ++ g.path ∷ [] in
        let grown = λ (q : Text) (h : has_path had q ≡ true). has_append base (g.path ∷ []) q
        ∙ or_left (has_path base q) (has_path (g.path ∷ []) q) (sub q h) in
        let here : has_path wider g.path ≡ true = has_append base (g.path ∷ []) g.path ∙ or_right (has_path base g.path)
        (has_path (g.path ∷ []) g.path) (or_left (bytes_eq g.path g.path) false itself) in
        let later = k wider (in_more wider grown here) in
        let together : wider ++ rest ≡ base ++ g.path ∷ rest = append_assoc base (g.path ∷ []) rest in (
          has_append base (g.path ∷ rest) g.path ∙ or_right (has_path base g.path) (has_path (g.path ∷ rest) g.path)
              (or_left (bytes_eq g.path g.path) (has_path rest g.path) itself),
          subst (λ (xs : List Text). AllHad xs gs) together later,
        )

-- DEFAULTS
defaults_twice : (d : Defaults) (p : Product) → with_defaults d (with_defaults d p) ≡ with_defaults d p
defaults_twice d p = rw (or_idem p.path d.path, or_idem p.edition d.edition, or_idem p.crate_type d.crate_type) refl

all_twice : (d : Defaults) (ps : List Product) → map (with_defaults d) (map (with_defaults d) ps) ≡ map
    (with_defaults d) ps
all_twice d [] = refl
all_twice d (p ∷ ps) = cc (defaults_twice d p, all_twice d ps)

-- a settled target takes no path after its defaults either
stays : (d : Defaults) (fs : List Discovered) (p : Product) → Settled fs p
    → pathed fs (with_defaults d p) ≡ with_defaults d p
stays d fs p e = rw (found_or (path_by_name fs p.name) p.path d.path e) refl

all_stay : (d : Defaults) (fs : List Discovered) (ps : List Product) → AllByRecursion (Settled fs) ps
    → map (pathed fs) (map (with_defaults d) ps) ≡ map (with_defaults d) ps
all_stay d fs [] h = refl
all_stay d fs (p ∷ ps) h = cc (stays d fs p h.0, all_stay d fs ps h.1)

if_none : {A : Type 0} (b : Bool) (xs : List A) → (b ≡ true → xs ≡ []) → (if b then xs else []) ≡ []
if_none true xs h = h refl
if_none false xs h = refl

-- a settled list with its defaults is completed to itself, where nothing is left to add
refill : (d : Defaults) (fs : List Discovered) (body : List Product) (on : Bool) → AllByRecursion (Settled fs) body
    → (on ≡ true → AllHad (paths_of (map (with_defaults d) body)) fs)
    → targets d on fs (map (with_defaults d) body) ≡ map (with_defaults d) body
refill d fs body on h had =
    let out = map (with_defaults d) body in
    let same = all_stay d fs body h in
    let more : (if on then added (paths_of out) fs else []) ≡ [] = if_none on (added (paths_of out) fs)
    (λ e. none_added (paths_of out) fs (had e)) in
    rw (same, more, append-nil) (all_twice d body)

when_on : (d : Defaults) (fs : List Discovered) (ps : List Product) (on : Bool)
    → targets d on fs (targets d true fs ps) ≡ targets d true fs ps
when_on d fs ps on =
    let f = map (pathed fs) ps in let x = added (paths_of f) fs in
    let had : AllHad (paths_of (f ++ x)) fs = subst (λ (qs : List Text). AllHad qs fs) (sym (paths_append f x))
    (covers fs (paths_of f) (paths_of f) (λ q h. h)) in
    refill d fs (f ++ x) on (append_settled fs f x (filled_settled fs ps) (added_settled fs fs (paths_of f)))
    (λ e. all_kept d (f ++ x) fs had)

when_off : (d : Defaults) (fs : List Discovered) (ps : List Product)
    → targets d false fs (targets d false fs ps) ≡ targets d false fs ps
when_off d fs ps =
    let f = map (pathed fs) ps in
    refill d fs (f ++ []) false (append_settled fs f [] (filled_settled fs ps) tt) (λ e. cc)

-- A COMPLETED LIST IS COMPLETED, although its flag may have changed with the list that it looks at
pub targets_fixed : (d : Defaults) (own : Option Bool) (legacy : Bool) (fs : List Discovered) (ps : List Product) →
    let out = targets d (discovers own legacy ps) fs ps in targets d (discovers own legacy out) fs out ≡ out
targets_fixed d (Some true) legacy fs ps = when_on d fs ps true
targets_fixed d (Some false) legacy fs ps = when_off d fs ps
targets_fixed d None false fs ps = when_on d fs ps true
targets_fixed d None true fs [] = when_on d fs [] _
targets_fixed d None true fs (p ∷ ps) = when_off d fs (p ∷ ps)
