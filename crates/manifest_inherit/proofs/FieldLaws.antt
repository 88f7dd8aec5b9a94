-- The fields of a package that may be inherited from a workspace, by their table.
use Rattle.manifest_schema.specs.Prelude.{table, no_members, Text, form, workspace_package_rows, Inheritable, inherited, local, Package, WorkspacePackage}
use Rattle.std.proofs.Common.{rules, arith, ◌≡◌, ◌<◌, ℕ, zero, suc, [], ◌++◌, refl, sym, subst, Option, Some, None}
use Rattle.manifest_inherit.specs.Fields.{Fields, no_more, ◌⨾◌, lendable}
use Rattle.manifest_inherit.specs.Resolved.{resolved_field, resolved_fields, resolved_package}
use Rattle.manifest_inherit.specs.Refused.{field_refusals, fields_refusals}
use Rattle.manifest_inherit.specs.Own.{IsOwn, AreOwn}
use Rattle.manifest_inherit.specs.ForProofs.{how_many, refusals_at, refusals_from}
use Rattle.manifest_inherit.proofs.FirstLemmas.{none_in_both}

-- A FIELD
field_own : {A : Type 0} (key : Text) (own : Option (Inheritable A)) (shared : Option A)
    → field_refusals key own shared ≡ [] → IsOwn (resolved_field own shared)
field_own key None shared h = tt
field_own key (Some (local x)) shared h = tt
field_own key (Some inherited) (Some x) h = tt
field_own key (Some inherited) None h = cc

field_same : {A : Type 0} (own : Option (Inheritable A)) (shared : Option A) → IsOwn own
    → resolved_field own shared ≡ own
field_same None shared h = refl
field_same (Some (local x)) shared h = refl
field_same (Some inherited) shared h = absurd h

field_accepted : {A : Type 0} (key : Text) (own : Option (Inheritable A)) (shared : Option A)
    → IsOwn own → field_refusals key own shared ≡ []
field_accepted key None shared h = refl
field_accepted key (Some (local y)) shared h = refl
field_accepted key (Some inherited) shared h = absurd h

-- THE TABLE: each of its fields is resolved in the package; a package with its own content of a field is that package
abbrev AreResolved : Fields → Type 0
AreResolved no_more = Unit {0}
AreResolved (f ⨾ fs) = ((w : Option WorkspacePackage) (p : Package) → f.own (resolved_package w p) ≡ resolved_field
    (f.own p) (f.shared w)) × AreResolved fs

all_resolved : AreResolved lendable
unfolding lendable resolved_package
all_resolved = search rules

abbrev AreKept : Fields → Type 0
AreKept no_more = Unit {0}
AreKept (f ⨾ fs) = ((p : Package) → f.with_content p (f.own p) ≡ p) × AreKept fs

all_kept : AreKept lendable
unfolding lendable
all_kept = search rules

-- THE FIELDS
fields_own : (fs : Fields) → AreResolved fs → (w : Option WorkspacePackage) (p : Package)
    → fields_refusals fs w p ≡ [] → AreOwn fs (resolved_package w p)
fields_own no_more k w p h = tt
fields_own (f ⨾ fs) k w p h =
    let (here, more) = none_in_both (field_refusals f.key (f.own p) (f.shared w)) (fields_refusals fs w p) h in
    (subst IsOwn (sym (k.0 w p)) (field_own f.key (f.own p) (f.shared w) here), fields_own fs k.1 w p more)

fields_same : (fs : Fields) → AreKept fs → (w : Option WorkspacePackage) (p : Package) → AreOwn fs p
    → resolved_fields fs w p ≡ p
fields_same no_more k w p h = refl
fields_same (f ⨾ fs) k w p h = rw (fields_same fs k.1 w p h.1, field_same (f.own p) (f.shared w) h.0) (k.0 p)

fields_accepted : (fs : Fields) (w : Option WorkspacePackage) (p : Package) → AreOwn fs p → fields_refusals fs w p ≡ []
fields_accepted no_more w p h = refl
fields_accepted (f ⨾ fs) w p h = rw (field_accepted f.key (f.own p) (f.shared w) h.0) (fields_accepted fs w p h.1)

-- A PACKAGE
pub package_own : (w : Option WorkspacePackage) (p : Package)
    → fields_refusals lendable w p ≡ [] → AreOwn lendable (resolved_package w p)
package_own = fields_own lendable all_resolved

pub package_same : (w : Option WorkspacePackage) (p : Package) → AreOwn lendable p → resolved_package w p ≡ p
unfolding resolved_package
package_same = fields_same lendable all_kept

pub package_accepted : (w : Option WorkspacePackage) (p : Package)
    → AreOwn lendable p → fields_refusals lendable w p ≡ []
package_accepted = fields_accepted lendable

-- ALL REFUSALS, field by field
-- one more field
pub one_refused : (fs : Fields) (i : ℕ) (w : Option WorkspacePackage) (p : Package) → i < how_many fs
    → refusals_from i fs w p ≡ refusals_at i fs w p ++ refusals_from (suc i) fs w p
one_refused no_more i w p h = absurd (omega (arith, h))
one_refused (f ⨾ fs) zero w p h = refl
one_refused (f ⨾ fs) (suc i) w p h = one_refused fs i w p (omega (arith, h))

-- no field is left
pub none_left : (fs : Fields) (w : Option WorkspacePackage) (p : Package) → refusals_from (how_many fs) fs w p ≡ []
none_left no_more w p = refl
none_left (f ⨾ fs) w p = none_left fs w p

-- TWO WORKSPACES WITH THE SAME FIELDS
abbrev LendSame : Fields → Option WorkspacePackage → Option WorkspacePackage → Type 0
LendSame no_more v w = Unit {0}
LendSame (f ⨾ fs) v w = (f.shared v ≡ f.shared w) × LendSame fs v w

same_resolved : (fs : Fields) (v w : Option WorkspacePackage) (p : Package) → LendSame fs v w → resolved_fields fs v
    p ≡ resolved_fields fs w p
same_resolved no_more v w p h = refl
same_resolved (f ⨾ fs) v w p h = rw (same_resolved fs v w p h.1, h.0) refl

same_refusals : (fs : Fields) (v w : Option WorkspacePackage) (p : Package) → LendSame fs v w → fields_refusals fs v
    p ≡ fields_refusals fs w p
same_refusals no_more v w p h = refl
same_refusals (f ⨾ fs) v w p h = rw (same_refusals fs v w p h.1, h.0) refl

-- what the empty table means has no field to inherit
abbrev IsAbsent : {B : Type 0} → Option B → Type 0
IsAbsent None = Unit {0}
IsAbsent (Some x) = ⊥

absent_none : {B : Type 0} (o : Option B) → IsAbsent o → o ≡ None
absent_none None h = refl
absent_none (Some x) h = absurd h

lends_nothing : (w : WorkspacePackage) → (form workspace_package_rows).reads (table no_members) w
    → LendSame lendable (Some w) None
unfolding lendable workspace_package_rows
lends_nothing w h = search (absent_none)

module _ (w : WorkspacePackage) (h : (form workspace_package_rows).reads (table no_members) w) (p : Package) where
  pub nothing_resolved : resolved_package (Some w) p ≡ resolved_package None p
  unfolding resolved_package
  nothing_resolved = same_resolved lendable (Some w) None p (lends_nothing w h)

  pub nothing_listed : fields_refusals lendable (Some w) p ≡ fields_refusals lendable None p
  nothing_listed = same_refusals lendable (Some w) None p (lends_nothing w h)
