-- A property of values by the floats and date-times in them: of what is written, only kept values can lack it.
use Rattle.manifest_schema.specs.Prelude.{match_ordering, IfSome, slice_cmp, and_parts, both_true, Data, string, integer, boolean, array, table, Items, no_items, item, Members, no_members, member, HasValidDates, Text, Spellings, only, Slot, absent, one, at, put, put_some, Kind, has_entry, reads_entries, raw, written_items, Entries, written_entries, map_of, Inheritable, inherited, local, written_split, written_some, Need, optional, default, never, meets_optional, meets_default, written_unless, Rows, no_more, others, ◌⨾◌, Fields, gets, spelled, fits, fits_beside, written_rows, form, without, first, strip_none, strip_debuginfo, strip_symbols, Manifest, inherited_rows, detailed_rows, lint_rows, product_rows, badge_rows, maintenance_rows, badges_rows, profile_rows, profiles_rows, lints_rows, platform_rows, package_rows, workspace_package_rows, workspace_rows, manifest_rows}
use Rattle.std.proofs.Common.{◌≡◌, ◌↔◌, Ordering, Less, Equal, Greater, nat_cmp, Bool, true, false, ◌&&◌, ◌⊎◌, inl, inr, List, [], ◌∷◌, ℤ, Option, Some, None, refl, sym, subst, rules}
use Rattle.std.proofs.lemmas.Option.{IfSome_then}
use Rattle.manifest_schema.specs.Contents.{StripSetting}
use Rattle.manifest_schema.specs.Kinds.{written_inh}
use Rattle.manifest_schema.specs.Choices.{strip_value}
use Rattle.manifest_schema.proofs.Tables.LeftOutLaws.{entry_beside}
use Rattle.manifest_schema.proofs.Forms.FormLaws.{HasSpelling, OfOne, slot_of}

-- each text, number and flag has it, and an array or a table exactly if all inside have it
pub record ByScalars (Q : Data → Type 0) : Type 0 where
  pub text_has : (s : Text) → Q (string s)
  pub whole_has : (z : ℤ) → Q (integer z)
  pub flag_has : (b : Bool) → Q (boolean b)
  pub no_item : Q (array no_items)
  pub item_has : (d : Data) (ds : Items) → Q (array (item d ds)) ↔ (Q d × Q (array ds))
  pub no_entry : Q (table no_members)
  pub entry_has : (k : Text) (d : Data) (ms : Members) → Q (table (member k d ms)) ↔ (Q d × Q (table ms))

pub both_are : (a b : Bool) → ((a && b) ≡ true) ↔ ((a ≡ true) × (b ≡ true))
both_are a b = (and_parts a b, λ h. both_true h.0 h.1)

pub dates_by_scalars : ByScalars HasValidDates
dates_by_scalars = search (rules, both_are)

-- WHAT IS WRITTEN has it
module _ {Q : Data → Type 0} (T : ByScalars Q) where
  -- a table with one more entry
  put_at : (o : Ordering) (k l : Text) (d e : Data) (ms : Members) → Q d → Q (table (member l e ms))
      → Q (table (put k d ms))
      → Q (table (match_ordering o (member k d (member l e ms)) (member l d ms) (member l e (put k d ms))))
  put_at Less k l d e ms h g more = (T.entry_has k d (member l e ms)).1 (h, g)
  put_at Equal k l d e ms h g more = (T.entry_has l d ms).1 (h, ((T.entry_has l e ms).0 g).1)
  put_at Greater k l d e ms h g more = (T.entry_has l e (put k d ms)).1 (((T.entry_has l e ms).0 g).0, more)

  put_has : (k : Text) (d : Data) (ms : Members) → Q d → Q (table ms) → Q (table (put k d ms))
  put_has k d no_members h g = (T.entry_has k d no_members).1 (h, g)
  put_has k d (member l e ms) h g =
      put_at (slice_cmp nat_cmp k l) k l d e ms h g (put_has k d ms h ((T.entry_has l e ms).0 g).1)

  put_some_has : (k : Text) (o : Option Data) (ms : Members) → IfSome o Q → Q (table ms) → Q (table (put_some k o ms))
  unfolding put_some
  put_some_has k None ms h g = g
  put_some_has k (Some d) ms h g = put_has k d ms h g

  -- lists and maps, what may be inherited, and one of two kinds
  items_have : {A : Type 0} (K : Kind A) → ((x : A) → Q (K.written x)) → (xs : List A) → Q (array (written_items K xs))
  items_have K a [] = T.no_item
  items_have K a (x ∷ xs) = (T.item_has (K.written x) (written_items K xs)).1 (a x, items_have K a xs)

  entries_have : {A : Type 0} (K : Kind A) → ((x : A) → Q (K.written x)) → (es : Entries A)
      → Q (table (written_entries K es))
  entries_have K a [] = T.no_entry
  entries_have K a (e ∷ es) = (T.entry_has e.0 (K.written e.1) (written_entries K es)).1 (a e.1, entries_have K a es)

  inh_has : {A : Type 0} (K : Kind A) → ((x : A) → Q (K.written x)) → (x : Inheritable A) → Q (written_inh K x)
  inh_has K a inherited = (T.entry_has _ _ no_members).1 (T.flag_has true, T.no_entry)
  inh_has K a (local x) = a x

  split_has : {A B : Type 0} (K : Kind A) (L : Kind B) → ((x : A) → Q (K.written x)) → ((x : B) → Q (L.written x))
      → (x : A ⊎ B) → Q (written_split K L x)
  split_has K L a b (inl x) = a x
  split_has K L a b (inr x) = b x

  strip_has : (x : StripSetting) → Q (strip_value x)
  strip_has strip_none = T.flag_has _
  strip_has strip_debuginfo = T.text_has _
  strip_has strip_symbols = T.flag_has _

  -- fields
  some_has : {A : Type 0} (K : Kind A) → ((x : A) → Q (K.written x)) → (o : Option A) → IfSome (written_some K o) Q
  some_has K a None = tt
  some_has K a (Some x) = a x

  if_some_has : {A : Type 0} (K : Kind A) (o : Option A) → IfSome o (λ x. Q (K.written x)) → IfSome (written_some K o) Q
  if_some_has K None h = tt
  if_some_has K (Some x) h = h

  unless_has : {A : Type 0} (K : Kind A) (b : Bool) (x : A) → Q (K.written x) → IfSome (written_unless K b x) Q
  unless_has K true x h = tt
  unless_has K false x h = h

  ruleset written_has = (put_some_has, items_have, entries_have, inh_has, split_has, strip_has, some_has, unless_has)

  -- a manifest, where what it keeps of metadata and of profiles has it
  pub manifest_has : (K W : Kind Data) (m : Manifest)
      → IfSome m.«package» (λ p. IfSome p.metadata (λ x. Q (K.written x)))
      → IfSome m.workspace (λ w. IfSome w.metadata (λ x. Q (W.written x)))
      → IfSome m.profile (λ p. Q ((form profiles_rows).written p)) → Q ((form (manifest_rows K W)).written m)
  unfolding manifest_rows package_rows workspace_rows workspace_package_rows platform_rows inherited_rows detailed_rows
      product_rows badges_rows badge_rows maintenance_rows lints_rows lint_rows
  manifest_has K W m ps ws fs =
      let «package» = if_some_has (form (package_rows K)) m.«package»
      (IfSome_then m.«package» ps (λ p h. search (
        written_has,
        if_some_has K p.metadata h,
        T.text_has,
        T.flag_has,
        T.no_entry,
      ) depth 60 fits 5000)) in
      let workspace = if_some_has (form (workspace_rows W)) m.workspace
      (IfSome_then m.workspace ws (λ w h. search (
        written_has,
        if_some_has W w.metadata h,
        T.text_has,
        T.whole_has,
        T.flag_has,
        T.no_entry,
      ) depth 60 fits 5000)) in
      let profile = if_some_has (form profiles_rows) m.profile fs in
      search (written_has, «package», workspace, profile, T.text_has, T.whole_has, T.flag_has, T.no_entry) depth 60 fits
      20000

-- WHAT IS READ of a value that has one such property is such, and what is written of it has another one
abbrev pub Reads : {A : Type 0} → (Data → Type 0) → Kind A → (A → Type 0) → Type 0
Reads {A} P K R = (d : Data) (x : A) → P d → K.reads d x → R x

module _ {P : Data → Type 0} (S : ByScalars P) where
  pub inside_have : (ms : Members) → P (table ms) → (k : Text) (d : Data) → has_entry k d ms → P d
  inside_have no_members v k d h = absurd h
  inside_have (member l e ms) v k d h =
      let parts = (S.entry_has l e ms).0 v in
      elim h [ inl here ↦ subst P (sym here.1) parts.0 | inr there ↦ inside_have ms parts.1 k d there ]

  slot_has : (names : Spellings) (ms : Members) → P (table ms) → OfOne (λ k d. P d) (at names ms)
  slot_has names ms v = by_slot (at names ms) (slot_of names ms)
    where
      by_slot : (s : Slot) → OfOne (λ k d. HasSpelling names k × has_entry k d ms) s → OfOne (λ k d. P d) s
      by_slot (one k d) h = inside_have ms v k d h.1
      by_slot _ h = tt

met : {P : Data → Type 0} {A : Type 0} (K : Kind A) {R : A → Type 0} → Reads P K R → (s : Slot) (o : Option A)
    → meets_optional K s o → OfOne (λ k d. P d) s → IfSome o R
met K r absent None m v = tt
met K r (one k d) (Some x) m v = r d x v m
met K r _ _ m v = absurd m

-- under a key of a table
pub row_reads : {P : Data → Type 0} → ByScalars P → {A B : Type 0} (K : Kind A) {R : A → Type 0} → Reads P K R
    → (rows : Rows B) (get : B → Option A) (k : Text)
    → ((ms : Members) (x : B) → fits rows ms x → meets_optional K (at (only k) ms) (get x))
    → Reads P (form rows) (λ x. IfSome (get x) R)
row_reads S K r rows get k m (table ms) x v h = met K r (at (only k) ms) (get x) (m ms x h) (slot_has S (only k) ms v)
row_reads S K r rows get k m _ x v h = absurd h

-- the same for a need, and for all rows of a form
record Turns {C : Type 0} (P Q : Data → Type 0) (n : Need C) : Type 0 where
  turns : (s : Slot) (x : C) → n.meets s x → OfOne (λ k d. P d) s → IfSome (n.written x) Q

abbrev AllTurn : {A : Type 0} → (P Q : Data → Type 0) → Rows A → Type 0
AllTurn P Q (r ⨾ rs) = Turns P Q r.need × AllTurn P Q rs
AllTurn P Q (others get K) = Reads P K (λ x. Q (K.written x))
AllTurn P Q no_more = Unit {0}

module _ {P Q : Data → Type 0} (S : ByScalars P) (T : ByScalars Q) where
  all_turn : {C : Type 0} {n : Need C} → ((x : C) → IfSome (n.written x) Q) → Turns P Q n
  all_turn h = record { turns = λ s x m v. h x }

  some_turn : {A : Type 0} (K : Kind A) → Reads P K (λ x. Q (K.written x)) → Turns P Q (optional K)
  some_turn K r = record { turns = λ s o m v. if_some_has T K o (met K r s o m v) }

  entries_turn : {A : Type 0} (K : Kind A) → Reads P K (λ x. Q (K.written x)) → (ms : Members) (es : Entries A)
      → reads_entries K ms es
      → ((k : Text) (d : Data) → has_entry k d ms → P d) → Q (table (written_entries K es))
  entries_turn K r no_members [] m v = T.no_entry
  entries_turn K r (member l d ms) (e ∷ es) m v =
      (T.entry_has e.0 (K.written e.1) (written_entries K es)).1
      (r d e.1 (v l d (inl (refl, refl))) m.1, entries_turn K r ms es m.2 (λ j f h. v j f (inr h)))
  entries_turn K r _ _ m v = absurd m

  map_turn : {A : Type 0} (K : Kind A) → Reads P K (λ x. Q (K.written x)) → Turns P Q (default (map_of K) [] never)
  map_turn {A} K r = record { turns = by_slot }
    where
      by_slot : (s : Slot) (es : Entries A) → meets_default [] (map_of K) s es → OfOne (λ k d. P d) s
          → Q (table (written_entries K es))
      by_slot absent es m v = rw m T.no_entry
      by_slot (one l (table ms)) es m v = entries_turn K r ms es m (inside_have S ms v)
      by_slot _ es m v = absurd m

  rows_turn : {A : Type 0} (named : List Text) (rows : Rows A) → AllTurn P Q rows → (ms : Members) → P (table ms)
      → (t : Fields rows) → fits_beside named rows ms t
      → Q (table (written_rows rows t))
  rows_turn named (r ⨾ rs) k ms v t m =
      put_some_has T (first r.spellings) (r.need.written t.0) (written_rows rs t.1)
      (k.0.turns (at r.spellings ms) t.0 m.0 (slot_has S r.spellings ms v)) (rows_turn named rs k.1 ms v t.1 m.1)
  rows_turn named (others get K) k ms v t m = entries_turn K k (without named ms) t m (λ j d h. inside_have S ms v j d
      (entry_beside named j d ms h).0)
  rows_turn named no_more k ms v t m = T.no_entry

  form_turns : {A : Type 0} (rows : Rows A) → AllTurn P Q rows → Reads P (form rows) (λ x. Q ((form rows).written x))
  form_turns rows k (table ms) x v m = rows_turn (spelled rows) rows k ms v (gets rows x) m
  form_turns rows k _ x v m = absurd m

  -- PROFILES, where what is kept of a value has it
  pub profiles_turn : Reads P raw Q → Reads P (form profiles_rows) (λ p. Q ((form profiles_rows).written p))
  unfolding profiles_rows profile_rows
  profiles_turn k =
      let profile = form_turns profile_rows (search (
        some_has,
        strip_has T,
        some_turn raw k,
        map_turn raw k,
        all_turn,
        T.text_has,
        T.whole_has,
        T.flag_has,
      ) depth 60 fits 20000) in
      form_turns profiles_rows (search (some_turn (form profile_rows) profile, profile))
