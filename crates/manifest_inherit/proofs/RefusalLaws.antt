-- The list of all refusals has what is refused at a path of the manifest, nothing else, and nothing twice.
use Rattle.manifest_schema.specs.Prelude.{append_assoc, append-nil, cases_Bool, bytes_eq, bytes_eq-Decides, keys_of, AllByRecursion, IfSome, Contains, none_named, is_among, same_key, Text, Path, key, Inheritable, inherited, local, Entries, InheritedDependencyDetail, Dependency, simple, by_workspace, detailed, Lint, MaybeInheritedLintsSet, Target, Package, WorkspacePackage, Workspace, Manifest}
use Rattle.std.proofs.Common.{rules, arith, ◌≡◌, ◌⊎◌, inl, inr, zero, suc, Bool, true, false, not, List, [], ◌∷◌, ◌++◌, if◌then◌else◌, codes, refl, sym, ap, ◌∙◌, subst, true≢false, Option, Some, None}
use Rattle.std.proofs.lemmas.Bool.{and_right}
use Rattle.std.proofs.lemmas.List.Elements.{Contains-append_left, Contains-append_right, Contains-append_cases, Contains-get_or}
use Rattle.std.specs.List.{IsDistinct, AllPairs}
use Rattle.manifest_schema.proofs.Tables.TableLaws.{same_key-self, same_key-true}
use Rattle.manifest_inherit.specs.Fields.{Fields, no_more, ◌⨾◌, lendable}
use Rattle.manifest_inherit.specs.Resolved.{workspace_dependency, shared_dependencies}
use Rattle.manifest_fault.specs.Placed.{placed_here, placed_under}
use Rattle.manifest_inherit.specs.Refused.{Refusal, PlacedRefusals, not_in_workspace, inherited_in_workspace, mixed_lints, tool_named_workspace, field_refusals, fields_refusals, lender_refusals, dependency_refusals, entries_refusals, dependencies_refusals, platform_refusals, platforms_refusals, tools_refusals, shared_lints_refusals, lints_refusals_by, lints_refusals, some_refusals, all_refusals}
use Rattle.manifest_inherit.specs.Pins.{some_field, field_refused, package_refused, maps_of, platform_maps, name_unfit, dependency_refused, lints_unfit, lints_refused, refused_at, HasDistinctKeys, KeysDiffer}
use Rattle.manifest_inherit.specs.Laws.{ListsEachRefusal, EmptyIfNoneHolds, ListsEachOnce}
use Rattle.manifest_inherit.proofs.FirstLemmas.{of_package, of_map, of_platforms, of_lints}

-- A LIST with one more element
first_in : {A : Type 0} (x : A) (xs : List A) → Contains (x ∷ xs) x
first_in x xs = (0, omega arith, refl)

later_in : {A : Type 0} (y : A) (xs : List A) (x : A) → Contains xs x → Contains (y ∷ xs) x
later_in y xs x h = (suc h.0, omega (arith, h.1), h.2)

in_cons : {A : Type 0} (y : A) (xs : List A) (x : A) → Contains (y ∷ xs) x → (x ≡ y) ⊎ Contains xs x
in_cons y xs x (zero, l, e) = inl (sym e)
in_cons y xs x (suc k, l, e) = inr (k, omega (arith, l), e)

in_none : {A : Type 0} (x : A) → Contains [] x → ⊥
in_none x h = omega (arith, h.1)

-- NONE TWICE
abbrev Once : PlacedRefusals → Type 0
Once [] = Unit {0}
Once (f ∷ fs) = (Contains fs f → ⊥) × Once fs

once_in_both : (fs gs : PlacedRefusals) → Once fs → Once gs
    → ((p : Path) (r : Refusal) → Contains fs (p, r) → Contains gs (p, r) → ⊥) → Once (fs ++ gs)
once_in_both [] gs a b apart = b
once_in_both (f ∷ fs) gs a b apart = (
  λ i. elim (Contains-append_cases fs gs f i) [ inl j ↦ a.0 j | inr j ↦ apart f.0 f.1 (first_in f fs) j ],
  once_in_both fs gs a.1 b (λ p r i. apart p r (later_in f fs (p, r) i)),
)

all_pairs : (fs : PlacedRefusals) → Once fs → AllPairs (λ f g. f ≡ g → ⊥) fs
all_pairs [] h i j d a b e = omega (arith, b)
all_pairs (f ∷ fs) h i zero d a b e = omega (arith, a)
all_pairs (f ∷ fs) h zero (suc j) d a b e = h.0 (rw e (Contains-get_or fs j d (omega (arith, b))))
all_pairs (f ∷ fs) h (suc i) (suc j) d a b e = all_pairs fs h.1 i j d (omega (arith, a)) (omega (arith, b)) e

-- which refusals stand at which paths
abbrev Reasons : Type 1
Reasons = Path → Refusal → Type 0

-- THE LIST HAS what R says, and nothing else; and under the hypothesis H nothing twice
record Lists (H : Type 0) (fs : PlacedRefusals) (R : Reasons) : Type 0 where
  only : (p : Path) (r : Refusal) → Contains fs (p, r) → R p r
  each : (p : Path) (r : Refusal) → R p r → Contains fs (p, r)
  once : H → Once fs

-- the same said otherwise, none, one, those of two lists, and those under a key
said_as : {H : Type 0} {fs : PlacedRefusals} {R S : Reasons} → Lists H fs R
    → ((p : Path) (r : Refusal) → R p r → S p r) → ((p : Path) (r : Refusal) → S p r → R p r) → Lists H fs S
said_as h to back = record {
  only = λ p r i. to p r (h.only p r i);
  each = λ p r x. h.each p r (back p r x);
  once = h.once;
}

nothing : {H : Type 0} {R : Reasons} → ((p : Path) (r : Refusal) → R p r → ⊥) → Lists H [] R
nothing h = record { only = λ p r i. absurd (in_none (p, r) i); each = λ p r x. absurd (h p r x); once = λ d. tt }

here : {H : Type 0} (s : Refusal) → Lists H (placed_here s) (λ p r. (p ≡ []) × (r ≡ s))
here s = record {
  only = λ p r i. elim (in_cons ([], s) [] (p, r) i) [
    | inl e ↦ (ap (λ (x : Path × Refusal). x.0) e, ap (λ (x : Path × Refusal). x.1) e)
    | inr j ↦ absurd (in_none (p, r) j)
  ];
  each = λ p r x. rw (x.0, x.1) (first_in ([], s) []);
  once = λ d. (in_none ([], s), tt);
}

and_then : {H : Type 0} {fs gs : PlacedRefusals} {R S : Reasons} → Lists H fs R → Lists H gs S
    → (H → (p : Path) (r : Refusal) → R p r → S p r → ⊥) → Lists H (fs ++ gs) (λ p r. R p r ⊎ S p r)
and_then {fs = fs} {gs = gs} h k apart = record {
  only = λ p r i. elim (Contains-append_cases fs gs (p, r) i) [
    | inl j ↦ inl (h.only p r j)
    | inr j ↦ inr (k.only p r j)
  ];
  each = λ p r x. elim x [
    | inl y ↦ Contains-append_left fs gs (p, r) (h.each p r y)
    | inr y ↦ Contains-append_right fs gs (p, r) (k.each p r y)
  ];
  once = λ d. once_in_both fs gs (h.once d) (k.once d) (λ p r i j. apart d p r (h.only p r i) (k.only p r j));
}

under : {H : Type 0} {fs : PlacedRefusals} {R : Reasons} (k : Text) → Lists H fs R
    → Lists H (placed_under k fs) (λ p r. (q : Path) × (p ≡ key k ∷ q) × R q r)
under {fs = fs} k h = record {
  only = λ p r i. let (q, e, j) = of_under fs p r i in (q, e, h.only q r j);
  each = λ p r (q, e, x). rw e (in_under fs q r (h.each q r x));
  once = λ d. once_under fs (h.once d);
}
  where
    of_under : (fs : PlacedRefusals) (p : Path) (r : Refusal) → Contains (placed_under k fs) (p, r)
        → (q : Path) × (p ≡ key k ∷ q) × Contains fs (q, r)
    of_under [] p r i = absurd (in_none (p, r) i)
    of_under (f ∷ fs) p r i = elim (in_cons (key k ∷ f.0, f.1) (placed_under k fs) (p, r) i) [
      | inl e ↦ (f.0, ap (λ (x : Path × Refusal). x.0) e, rw (ap (λ (x : Path × Refusal). x.1) e) (first_in f fs))
      | inr j ↦ let (q, s, l) = of_under fs p r j in (q, s, later_in f fs (q, r) l)
    ]

    in_under : (fs : PlacedRefusals) (q : Path) (r : Refusal) → Contains fs (q, r)
        → Contains (placed_under k fs) (key k ∷ q, r)
    in_under [] q r i = absurd (in_none (q, r) i)
    in_under (f ∷ fs) q r i = elim (in_cons f fs (q, r) i) [
      | inl e ↦ subst (λ (x : Path × Refusal). Contains (placed_under k (x ∷ fs)) (key k ∷ q, r)) e (first_in _ _)
      | inr j ↦ later_in _ (placed_under k fs) (key k ∷ q, r) (in_under fs q r j)
    ]

    once_under : (fs : PlacedRefusals) → Once fs → Once (placed_under k fs)
    once_under [] h = tt
    once_under (f ∷ fs) h = (
      λ i. let (q, s, j) = of_under fs (key k ∷ f.0) f.1 i in
          let same : q ≡ f.0 = cc in
          h.0 (subst (λ q. Contains fs (q, f.1)) same j),
      once_under fs h.1,
    )

-- A MAP, and what may be absent
differ : {A : Type 0} (k : Text) (es : Entries A) (n : Text) (x : A)
    → AllByRecursion (λ l. bytes_eq k l ≡ false) (keys_of es) → Contains es (n, x) → k ≡ n → ⊥
differ k [] n x h i e = in_none (n, x) i
differ {A = A} k (y ∷ es) n x h i e = elim (in_cons y es (n, x) i) [
  | inl s ↦ true≢false (sym ((bytes_eq-Decides k y.0).1 (e ∙ ap (λ (z : Text × A). z.0) s)) ∙ h.0)
  | inr j ↦ differ k es n x h.1 j e
]

entries : {H A : Type 0} (listed : Text → A → PlacedRefusals) (R : Text → A → Reasons) (es : Entries A)
    → (H → HasDistinctKeys es) → ((k : Text) (x : A) → Contains es (k, x) → Lists H (listed k x) (R k x))
    → Lists H (entries_refusals listed es)
    (λ p r. (k : Text) × (x : A) × (q : Path) × Contains es (k, x) × (p ≡ key k ∷ q) × R k x q r)
unfolding IsDistinct
entries listed R [] keys h = nothing (λ p r (k, x, q, i, e, y). in_none (k, x) i)
entries {A = A} listed R (e ∷ es) keys h =
    let more = entries listed R es (λ d. (keys d).1) (λ k x i. h k x (later_in e es (k, x) i)) in
    said_as (and_then (under e.0 (h e.0 e.1 (first_in e es))) more
    (λ d p r (q, s, y) (k, x, q', i, s', z). differ e.0 es k x (keys d).0 i cc))
    (λ p r x. elim x [
      | inl (q, s, y) ↦ (e.0, e.1, q, first_in e es, s, y)
      | inr (k, x, q, i, s, y) ↦ (k, x, q, later_in e es (k, x) i, s, y)
    ])
    (λ p r (k, x, q, i, s, y). elim (in_cons e es (k, x) i) [
      | inl t ↦ inl (subst (λ (z : Text × A). (q : Path) × (p ≡ key z.0 ∷ q) × R z.0 z.1 q r) t (q, s, y))
      | inr j ↦ inr (k, x, q, j, s, y)
    ])

some : {H A : Type 0} (listed : A → PlacedRefusals) (R : A → Reasons) (o : Option A)
    → ((x : A) → o ≡ Some x → Lists H (listed x) (R x))
    → Lists H (some_refusals listed o) (λ p r. (x : A) × (o ≡ Some x) × R x p r)
some listed R None h = nothing (λ p r (x, e, y). cc)
some listed R (Some x) h =
    said_as (h x refl) (λ p r y. (x, refl, y)) (λ p r (z, e, y). let same : z ≡ x = cc in subst (λ z. R z p r) same y)

-- THE FIELDS
abbrev package_path : Path → Path
package_path q = key (codes "package") ∷ q

field : {H A : Type 0} (name : Text) (own : Option (Inheritable A)) (shared : Option A)
    → Lists H (field_refusals name own shared)
    (λ q r. (own ≡ Some inherited) × (shared ≡ None) × (package_path q ≡ package_path (key name ∷ []))
    × (r ≡ not_in_workspace name))
field name (Some inherited) None = said_as (under name (here (not_in_workspace name)))
    (λ q r (q', s, (t, e)). (refl, refl, cc, e)) (λ q r (a, b, s, e). ([], cc, (refl, e)))
field name (Some inherited) (Some x) = nothing (λ q r (a, b, s, e). cc)
field name (Some (local y)) shared = nothing (λ q r (a, b, s, e). cc)
field name None shared = nothing (λ q r (a, b, s, e). cc)

abbrev field_keys : Fields → List Text
field_keys no_more = []
field_keys (f ⨾ fs) = f.key ∷ field_keys fs

keys_distinct : IsDistinct bytes_eq (field_keys lendable)
unfolding IsDistinct lendable
keys_distinct = search rules

module _ (w : Option WorkspacePackage) (member : Package) where
  -- each is under its key
  by_key : (fs : Fields) (p : Path) (r : Refusal) → some_field (field_refused member w p r) fs
      → (k : Text) × (p ≡ package_path (key k ∷ []))
      × ((l : Text) → AllByRecursion (λ k. bytes_eq l k ≡ false) (field_keys fs) → l ≡ k → ⊥)
  by_key no_more p r x = absurd x
  by_key (f ⨾ fs) p r (inl (a, b, s, e)) = (f.key, s, λ l h t. true≢false (sym ((bytes_eq-Decides l f.key).1 t) ∙ h.0))
  by_key (f ⨾ fs) p r (inr x) = let (k, s, h) = by_key fs p r x in (k, s, λ l d. h l d.1)

  fields : {H : Type 0} (fs : Fields) → IsDistinct bytes_eq (field_keys fs)
      → Lists H (fields_refusals fs w member) (λ q r. some_field (field_refused member w (package_path q) r) fs)
  unfolding IsDistinct
  fields no_more d = nothing (λ q r x. x)
  fields (f ⨾ fs) d = and_then (field f.key (f.own member) (f.shared w)) (fields fs d.1)
      (λ h q r (a, b, s, e) x. let (k, t, apart) = by_key fs (package_path q) r x in apart f.key d.0 cc)

-- THE DEPENDENCIES
lender : {H : Type 0} (name : Text) (o : Option Dependency)
    → Lists H (lender_refusals name o) (λ q r. (q ≡ []) × name_unfit name o r)
lender name None = said_as (here (not_in_workspace name)) (λ q r (s, e). (s, inl (refl, e)))
    (λ q r (s, x). (s, elim x [ inl (a, e) ↦ e | inr (d, a, e) ↦ cc ]))
lender name (Some (by_workspace d)) = said_as (here (inherited_in_workspace name)) (λ q r (s, e). (s, inr (d, refl, e)))
    (λ q r (s, x). (s, elim x [ inl (a, e) ↦ cc | inr (d, a, e) ↦ e ]))
lender name (Some (simple v)) = nothing (λ q r (s, x). elim x [ inl (a, e) ↦ cc | inr (d, a, e) ↦ cc ])
lender name (Some (detailed v)) = nothing (λ q r (s, x). elim x [ inl (a, e) ↦ cc | inr (d, a, e) ↦ cc ])

module _ (shared : Entries Dependency) where
  dependency : {H : Type 0} (name : Text) (d : Dependency) → Lists H (dependency_refusals shared name d)
      (λ q r. (own : InheritedDependencyDetail) × (d ≡ by_workspace own) × (q ≡ [])
      × name_unfit name (workspace_dependency shared name) r)
  dependency name (by_workspace own) =
      said_as (lender name (workspace_dependency shared name))
      (λ q r (s, x). (own, refl, s, x)) (λ q r (o, e, s, x). (s, x))
  dependency name (simple v) = nothing (λ q r (o, e, s, x). cc)
  dependency name (detailed v) = nothing (λ q r (o, e, s, x). cc)

  abbrev InMap : Entries Dependency → Reasons
  InMap es q r =
      (name : Text) × (own : InheritedDependencyDetail) × Contains es (name, by_workspace own) × (q ≡ key name ∷ [])
      × name_unfit name (workspace_dependency shared name) r

  dependencies : {H : Type 0} (es : Entries Dependency) → (H → HasDistinctKeys es)
      → Lists H (dependencies_refusals shared es) (InMap es)
  dependencies es keys = said_as (entries (dependency_refusals shared) _ es keys (λ k d i. dependency k d))
      (λ p r (name, d, q, i, s, (own, e, t, x)). (name, own, subst (λ d. Contains es (name, d)) e i, cc, x))
      (λ p r (name, own, i, s, x). (name, by_workspace own, [], i, s, (own, refl, refl, x)))

  abbrev InPlatform : Target → Reasons
  InPlatform t p r =
      (k : Text) × (es : Entries Dependency) × (q : Path) × Contains (platform_maps t) (k, es) × (p ≡ key k ∷ q)
      × InMap es q r

  platform_parts : (t : Target)
      → entries_refusals (λ k. dependencies_refusals shared) (platform_maps t) ≡ platform_refusals shared t
  platform_parts t = simp (append_assoc, append-nil)

  platform_keys : (t : Target) → HasDistinctKeys (platform_maps t)
  unfolding IsDistinct
  platform_keys t = search rules

  platform : {H : Type 0} (t : Target)
      → (H → (k : Text) (es : Entries Dependency) → Contains (platform_maps t) (k, es) → HasDistinctKeys es)
      → Lists H (platform_refusals shared t) (InPlatform t)
  platform {H = H} t keys =
      subst (λ fs. Lists H fs (InPlatform t)) (platform_parts t)
      (entries (λ k. dependencies_refusals shared) (λ k. InMap) (platform_maps t) (λ h. platform_keys t)
      (λ k es i. dependencies es (λ h. keys h k es i)))

-- THE LINTS
module _ (w : Text) {A : Type 0} where
  of_named : (es : Entries A) → none_named (w ∷ []) es ≡ false → (x : A) × Contains es (w, x)
  of_named [] h = cc
  of_named (e ∷ es) h = elim (cases_Bool (same_key w e.0)) [
    | inl t ↦ (e.1, rw (same_key-true w e.0 t) (first_in e es))
    | inr t ↦ let (x, i) = of_named es (rw t at h) in (x, later_in e es (w, x) i)
  ]

  in_named : (es : Entries A) (x : A) → Contains es (w, x) → none_named (w ∷ []) es ≡ false
  in_named [] x h = absurd (in_none (w, x) h)
  in_named (e ∷ es) x h = elim (in_cons e es (w, x) h) [
    | inl s ↦ rw (← ap (λ (y : Text × A). y.0) s, same_key-self w) refl
    | inr i ↦ and_right (not (is_among (w ∷ []) e.0)) (none_named (w ∷ []) es) (in_named es x i)
  ]

tools : {H : Type 0} (own : Entries (Entries Lint)) → Lists H (tools_refusals own)
    (λ q r. (q ≡ []) × ((tool : Text × Entries Lint) × Contains own tool × (r ≡ mixed_lints)))
tools [] = nothing (λ q r (s, (t, i, e)). in_none t i)
tools (t ∷ ts) = said_as (here mixed_lints) (λ q r (s, e). (s, (t, first_in t ts, e))) (λ q r (s, (u, i, e)). (s, e))

shared_lints : {H : Type 0} (shared : Option (Entries (Entries Lint)))
    → Lists H (shared_lints_refusals shared) (λ q r. (q ≡ []) × lints_unfit shared r)
shared_lints None = said_as (here (not_in_workspace (codes "lints"))) (λ q r (s, e). (s, inl (refl, e)))
    (λ q r (s, x). (s, elim x [ inl (a, e) ↦ e | inr (ts, t, a, i, e) ↦ cc ]))
shared_lints {H = H} (Some ts) = by_names (none_named (codes "workspace" ∷ []) ts) refl
  where
    by_names : (b : Bool) → none_named (codes "workspace" ∷ []) ts ≡ b
        → Lists H (if b then [] else placed_here tool_named_workspace) (λ q r. (q ≡ []) × lints_unfit (Some ts) r)
    by_names true n = nothing (λ q r (s, x). elim x [
      | inl (a, e) ↦ cc
      | inr (us, t, a, i, e) ↦
          let same : us ≡ ts = cc in
          let named = in_named (codes "workspace") ts t (subst (λ us. Contains us (codes "workspace", t)) same i) in
          true≢false (sym n ∙ named)
    ])
    by_names false n = said_as (here tool_named_workspace)
        (λ q r (s, e). let (t, i) = of_named (codes "workspace") ts n in (s, inr (ts, t, refl, i, e)))
        (λ q r (s, x). (s, elim x [ inl (a, e) ↦ cc | inr (us, t, a, i, e) ↦ e ]))

abbrev InLints : Option (Unit {0}) → Option (Entries (Entries Lint)) → Entries (Entries Lint) → Reasons
InLints mark shared own q r =
    (mark ≡ Some tt) × (q ≡ [])
    × (((tool : Text × Entries Lint) × Contains own tool × (r ≡ mixed_lints)) ⊎ lints_unfit shared r)

lints : {H : Type 0} (mark : Option (Unit {0})) (shared : Option (Entries (Entries Lint)))
    (own : MaybeInheritedLintsSet)
    → Lists H (lints_refusals_by mark shared own) (InLints mark shared own.lints)
lints None shared own = nothing (λ q r (u, s, x). cc)
lints (Some u) shared own = said_as (and_then (tools own.lints) (shared_lints shared)
    (λ h q r (s, (t, i, e)) (s', x). elim x [ inl (a, e') ↦ cc | inr (ts, y, a, j, e') ↦ cc ]))
    (λ q r x. elim x [ inl (s, y) ↦ (refl, s, inl y) | inr (s, y) ↦ (refl, s, inr y) ])
    (λ q r (a, s, x). elim x [ inl y ↦ inl (s, y) | inr y ↦ inr (s, y) ])

-- THE LIST OF ALL REFUSALS
module _ (m : Manifest) (w : Workspace) where
  abbrev shared : Entries Dependency
  shared = shared_dependencies w

  in_package : Lists (KeysDiffer m) (placed_under (codes "package") (of_package m w)) (package_refused m w)
  in_package = said_as (under (codes "package") (some (fields_refusals lendable w.«package») _ m.«package»
      (λ x e. fields w.«package» x lendable keys_distinct)))
      (λ p r (q, s, (x, e, y)). (x, e, subst (λ p. some_field (field_refused x w.«package» p r) lendable) (sym s) y))
      (λ p r (x, e, y). let (k, s, h) = by_key w.«package» x lendable p r y in
      (key k ∷ [], s, (x, e, subst (λ p. some_field (field_refused x w.«package» p r) lendable) s y)))

  map_keys : HasDistinctKeys (maps_of m)
  unfolding IsDistinct
  map_keys = search rules

  maps : Lists (KeysDiffer m) (entries_refusals (λ k. of_map m w) (maps_of m))
      (λ p r. (k : Text) × (o : Option (Entries Dependency)) × (q : Path) × Contains (maps_of m) (k, o)
      × (p ≡ key k ∷ q) × ((es : Entries Dependency) × (o ≡ Some es) × InMap shared es q r))
  maps = entries (λ k. of_map m w) _ (maps_of m) (λ h. map_keys) (λ k o i.
      some (dependencies_refusals shared) _ o (λ es e. dependencies shared es (λ h.
      h.maps (key k ∷ []) es (inl (k, subst (λ o. Contains (maps_of m) (k, o)) e i, refl)))))

  platforms : Lists (KeysDiffer m) (of_platforms m w)
      (λ p r. (ts : Entries Target) × (m.target ≡ Some ts)
      × ((n : Text) × (t : Target) × (q : Path) × Contains ts (n, t) × (p ≡ key n ∷ q) × InPlatform shared t q r))
  platforms = some (platforms_refusals shared) _ m.target (λ ts e.
      entries (λ n. platform_refusals shared) _ ts (λ h. subst (λ o. IfSome o HasDistinctKeys) e h.platforms) (λ n t i.
      platform shared t (λ h k es j.
      h.maps (key (codes "target") ∷ key n ∷ key k ∷ []) es (inr (ts, n, t, k, e, i, j, refl)))))

  in_maps : Lists (KeysDiffer m)
      (entries_refusals (λ k. of_map m w) (maps_of m) ++ placed_under (codes "target") (of_platforms m w))
      (dependency_refused m w)
  in_maps = said_as (and_then maps (under (codes "target") platforms)
      (λ h p r (k, o, q, i, s, x) (q', s', y). differ (codes "target") (maps_of m) k o (search rules) i cc))
      (λ p r x. elim x [
        | inl (k, o, q, i, s, (es, t, (name, own, a, u, v))) ↦
            (es, key k ∷ [], name, own, inl (k, subst (λ o. Contains (maps_of m) (k, o)) t i, refl), a, cc, v)
        | inr (q, s, (ts, t, (n, x, q', i, s', (k, es, q'', j, s'', (name, own, a, u, v))))) ↦
            (es, key (codes "target") ∷ key n ∷ key k ∷ [], name, own, inr (ts, n, x, k, t, i, j, refl), a, cc, v)
      ])
      (λ p r (es, q, name, own, at, a, s, v). elim at [
        | inl (k, i, e) ↦ inl (k, Some es, key name ∷ [], i, cc, (es, refl, (name, own, a, refl, v)))
        | inr (ts, n, x, k, t, i, j, e) ↦
            let q' : Path = key k ∷ key name ∷ [] in
            let inside : InPlatform shared x q' r = (k, es, key name ∷ [], j, refl, (name, own, a, refl, v)) in
            inr (key n ∷ q', cc, (ts, t, (n, x, q', i, refl, inside)))
      ])

  in_lints : Lists (KeysDiffer m) (placed_under (codes "lints") (of_lints m w)) (lints_refused m w)
  in_lints = said_as (under (codes "lints") (some (lints_refusals w.lints) _ m.lints
      (λ own e. lints own.workspace w.lints own)))
      (λ p r (q, s, (own, e, (u, t, x))). (own, e, u, cc, x)) (λ p r (own, e, u, s, x). ([], s, (own, e, (u, refl, x))))

  all_parts : placed_under (codes "package") (of_package m w)
      ++ ((entries_refusals (λ k. of_map m w) (maps_of m) ++ placed_under (codes "target") (of_platforms m w))
      ++ placed_under (codes "lints") (of_lints m w)) ≡ all_refusals m w
  unfolding all_refusals
  all_parts = simp (append_assoc, append-nil)

  in_all : Lists (KeysDiffer m) (all_refusals m w) (refused_at m w)
  in_all =
      subst (λ fs. Lists (KeysDiffer m) fs (refused_at m w)) all_parts
      (and_then in_package (and_then in_maps in_lints
      (λ h p r (es, q, name, own, at, a, s, v) (l, e, u, path, x). elim at [
        | inl (k, i, e) ↦ cc
        | inr (ts, n, x, k, t, i, j, e) ↦ cc
      ]))
      (λ h p r (x, e, y) z. let (l, path, apart) = by_key w.«package» x lendable p r y in elim z [
        | inl (es, q, name, own, inl (k, i, e), a, s, v) ↦
            differ (codes "package") (maps_of m) k (Some es) (search rules) i cc
        | inl (es, q, name, own, inr (ts, n, x, k, t, i, j, e), a, s, v) ↦ cc
        | inr (own, e, u, t, x) ↦ cc
      ]))

pub each_refusal_is_listed : ListsEachRefusal
each_refusal_is_listed m w p r = ((in_all m w).only p r, (in_all m w).each p r)

empty_of : (fs : PlacedRefusals) → ((p : Path) (r : Refusal) → Contains fs (p, r) → ⊥) → fs ≡ []
empty_of [] h = refl
empty_of (f ∷ fs) h = absurd (h f.0 f.1 (first_in f fs))

pub none_is_listed : EmptyIfNoneHolds
none_is_listed m w = (
  λ e p r x. in_none (p, r) (subst (λ fs. Contains fs (p, r)) e ((in_all m w).each p r x)),
  λ h. empty_of (all_refusals m w) (λ p r i. h p r ((in_all m w).only p r i)),
)

pub each_is_listed_once : ListsEachOnce
each_is_listed_once m w h = all_pairs (all_refusals m w) ((in_all m w).once h)
