-- The document of a table is no longer than its bound.
use Rattle.manifest_schema.specs.Prelude.{and_parts, Data, string, integer, float, boolean, datetime, array, table, Items, no_items, item, Members, no_members, member, key_value, std_table, array_table, Expression, IsValueText, plain, plain_items, plain_members}
use Rattle.std.proofs.Common.{◌≡◌, ℕ, ◌+◌, ◌≤◌, Bool, true, false, List, [], ◌∷◌, ◌++◌, length, length-append, refl, sym, ap, ◌∙◌, append_assoc, arith, codes, if◌then◌else◌}
use Rattle.toml.specs.Text.{breaks_lines, before_item, after_item, before_member, IsItemsText, IsMembersText, is_section, are_tables, pairs, sections, section, elements, header_of, needs_header, IsLinesText}
use Rattle.toml_writer.specs.Text.{key_text, path_text}
use Rattle.cargo_manifest.specs.Printed.{key_size, printed_size, printed_items, printed_members, PrintedIsBounded}

-- an array stands on one line
one_line : (ds : Items) → breaks_lines false ds ≡ false
one_line no_items = refl
one_line (item d no_items) = refl
one_line (item d (item e ds)) = refl

-- an item with what stands before it is two bytes longer at most
joined_item : (is_first : Bool) (this rest text : List ℕ) (m n : ℕ) → text ≡ before_item false is_first
    ++ (this ++ (after_item false ++ rest)) → length this ≤ m → length rest ≤ n + 1 → length text ≤ m + 2 + n + 1
joined_item true this rest text m n e h g = omega (arith, simp length-append at (ap length e))
joined_item false this rest text m n e h g = omega (arith, simp length-append at (ap length e))

-- a member with what stands before it is longer by its key and five bytes at most
joined_member : (is_first : Bool) (k this rest text : List ℕ) (m n : ℕ) → text ≡ before_member is_first
    ++ (key_text k ++ (codes " = " ++ (this ++ rest))) → length this ≤ m → length rest ≤ n + 2 → length text ≤ key_size
    k + 4 + m + n + 2
joined_member true k this rest text m n e h g = omega (arith, simp length-append at (ap length e))
joined_member false k this rest text m n e h g = omega (arith, simp length-append at (ap length e))

-- VALUES on the right of `=`, after any path
mutual
  value_fits : (path : ℕ) (d : Data) (text : List ℕ) → plain d ≡ true → IsValueText false d text
      → length text ≤ printed_size path d
  value_fits path (string s) text p h = omega (arith, ap length h)
  value_fits path (integer z) text p h = omega (arith, ap length h.0)
  value_fits path (float x) text p h = absurd (cc)
  value_fits path (boolean true) text p h = omega (arith, ap length h)
  value_fits path (boolean false) text p h = omega (arith, ap length h)
  value_fits path (datetime dt) text p h = omega (arith, ap length h)
  value_fits path (array ds) text p (rest, e, h) =
      let inside = items_fit path true ds rest p (rw one_line at h) in omega (arith, ap length e)
  value_fits path (table ms) text p (rest, e, h) =
      let inside = members_fit path true ms rest p h in omega (arith, ap length e)

  items_fit : (path : ℕ) (is_first : Bool) (ds : Items) (text : List ℕ) → plain_items ds ≡ true
      → IsItemsText false false is_first ds text → length text ≤ printed_items path ds + 1
  items_fit path is_first no_items text p h = omega (arith, ap length h)
  items_fit path is_first (item d ds) text p (this, rest, e, v, more) =
      let parts = and_parts (plain d) (plain_items ds) p in
      let here = value_fits path d this parts.0 v in
      let under = items_fit path false ds rest parts.1 more in
      joined_item is_first this rest text _ _ e here under

  members_fit : (path : ℕ) (is_first : Bool) (ms : Members) (text : List ℕ) → plain_members ms ≡ true
      → IsMembersText false is_first ms text → length text ≤ printed_members path ms + 2
  members_fit path true no_members text p h = omega (arith, ap length h)
  members_fit path false no_members text p h = omega (arith, ap length h)
  members_fit path is_first (member k d ms) text p (this, rest, e, v, more, before) =
      let parts = and_parts (plain d) (plain_members ms) p in
      let here = value_fits (path + key_size k) d this parts.0 v in
      let under = members_fit path false ms rest parts.1 more in
      joined_member is_first k this rest text _ _ e here under

-- LINES: they are at most so long, wherever they stand
abbrev AtMost : List Expression → ℕ → Type 0
AtMost es n = (started : Bool) (text : List ℕ) → IsLinesText false started es text → length text ≤ n

-- no lines are empty
none_at_most : AtMost [] 0
none_at_most started text h = omega (arith, ap length h)

-- the text of two runs of lines is that of the one and that of the other
abbrev TwoTexts : Bool → List Expression → List Expression → List ℕ → Type 0
TwoTexts started es fs text =
    (this : List ℕ) × (rest : List ℕ) × (ended : Bool) × (text ≡ this ++ rest) × IsLinesText false started es this
    × IsLinesText false ended fs rest

two_texts : (es fs : List Expression) (started : Bool) (text : List ℕ) → IsLinesText false started (es ++ fs) text
    → TwoTexts started es fs text
two_texts [] fs started text h = ([], text, started, refl, refl, h)
two_texts (e ∷ es) fs started text (this, rest, whole, line, lines) =
    let (more, last, ended, split, first, second) = two_texts es fs true rest lines in (
      this ++ more,
      last,
      ended,
      whole ∙ ap (λ t. this ++ t) split ∙ sym (append_assoc this more last),
      (this, more, refl, line, first),
      second,
    )

-- two runs of lines are as long as the one and the other
both_at_most : (es fs : List Expression) (m n : ℕ) → AtMost es m → AtMost fs n → AtMost (es ++ fs) (m + n)
both_at_most es fs m n a b started text h =
    let (this, rest, ended, whole, first, second) = two_texts es fs started text h in
    omega (arith, simp length-append at (ap length whole), a started this first, b ended rest second)

-- a line of a key and a value
pair_at_most : (k : List ℕ) (d : Data) → plain d ≡ true → (path : ℕ) → AtMost ((([], k), key_value d) ∷ [])
    (key_size k + 4 + printed_size path d)
pair_at_most k d p path started text (line, rest, whole, (this, e, v), last) =
    omega (
      arith,
      simp length-append at (ap length whole),
      simp length-append at (ap length e),
      value_fits path d this p
          v,
      ap length last,
    )

-- how long the path of the headers is
abbrev under : List (List ℕ) → ℕ
under path = length (path_text path)

-- a key more makes it longer by what the key takes
under_one : (path : List (List ℕ)) (k : List ℕ) → under (path ++ k ∷ []) ≡ under path + key_size k
under_one [] k = simp length-append (omega arith)
under_one (l ∷ path) k = simp length-append (omega (arith, under_one path k))

-- the line of a header, in one pair of brackets and in two
header_at_most : (path : List (List ℕ)) (k : List ℕ) → AtMost (((path, k), std_table) ∷ []) (under path + key_size k +
    3)
header_at_most path k true text (line, rest, whole, e, last) =
    omega (arith, simp length-append at (ap length whole), simp length-append at (ap length e), ap length last)
header_at_most path k false text (line, rest, whole, e, last) =
    omega (arith, simp length-append at (ap length whole), simp length-append at (ap length e), ap length last)

array_header_at_most : (path : List (List ℕ)) (k : List ℕ) → AtMost (((path, k), array_table) ∷ [])
    (under path + key_size k + 5)
array_header_at_most path k true text (line, rest, whole, e, last) =
    omega (arith, simp length-append at (ap length whole), simp length-append at (ap length e), ap length last)
array_header_at_most path k false text (line, rest, whole, e, last) =
    omega (arith, simp length-append at (ap length whole), simp length-append at (ap length e), ap length last)

-- TABLES: the pairs of a table and the tables inside it
abbrev Fits : List (List ℕ) → Members → Type 0
Fits path ms = (m : ℕ) × (n : ℕ) × AtMost (pairs ms) m × AtMost (sections path ms) n
    × (m + n ≤ printed_members (under path) ms)

-- a larger number will do
longer : (es : List Expression) (m n : ℕ) → m ≤ n → AtMost es m → AtMost es n
longer es m n h a started text lines = omega (arith, a started text lines)

-- what is no section has no lines below a header
no_section : (path : List (List ℕ)) (k : List ℕ) (d : Data) → is_section d ≡ false → AtMost (section (path, k) d) 0
no_section path k (array no_items) e = none_at_most
no_section path k (array (item d ds)) e = rw e none_at_most
no_section path k (table ms) e = absurd (cc)
no_section path k (string s) e = none_at_most
no_section path k (integer z) e = none_at_most
no_section path k (float x) e = none_at_most
no_section path k (boolean b) e = none_at_most
no_section path k (datetime dt) e = none_at_most

-- the header of a table, where it has one
table_header : (path : List (List ℕ)) (k : List ℕ) (ms : Members) → AtMost (header_of (path, k) ms)
    (under path + key_size k + 3)
table_header path k ms = elim (needs_header ms) as (λ b. AtMost (if b then ((path, k), std_table) ∷ [] else [])
    (under path + key_size k + 3)) [ true ↦ header_at_most path k | false ↦ longer [] 0 _ (omega arith) none_at_most ]

-- an entry among the others is a section, or a line of its own
entry_fits : (path : List (List ℕ)) (k : List ℕ) (d : Data) (ms : Members) → plain d ≡ true
    → AtMost (section (path, k) d) (key_size k + 4 + printed_size (under path + key_size k) d) → Fits path ms
    → (s : Bool) → is_section d ≡ s → Fits path (member k d ms)
entry_fits path k d ms p below (m, n, a, b, h) true e =
    rw e (
      m,
      key_size k + 4 + printed_size (under path + key_size k) d + n,
      a,
      both_at_most (section (path, k) d)
          (sections path ms) _ _ below b,
      omega arith,
    )
entry_fits path k d ms p below (m, n, a, b, h) false e =
    rw e (
      key_size k + 4 + printed_size (under path + key_size k) d + m,
      0 + n,
      both_at_most ((([], k), key_value d)
          ∷ []) (pairs ms) _ _ (pair_at_most k d p _) a,
      both_at_most (section (path, k) d) (sections path ms) _ _
          (no_section path k d e) b,
      omega arith,
    )

-- the lines of a table below the path of its header
table_at_most : (path : List (List ℕ)) (k : List ℕ) (ms : Members) → Fits (path ++ k ∷ []) ms
    → AtMost (pairs ms ++ sections (path ++ k ∷ []) ms) (printed_members (under path + key_size k) ms)
table_at_most path k ms (m, n, a, b, h) =
    longer (pairs ms ++ sections (path ++ k ∷ []) ms) (m + n) _ (rw under_one at h)
    (both_at_most (pairs ms) (sections (path ++ k ∷ []) ms) m n a b)

mutual
  table_fits : (path : List (List ℕ)) (ms : Members) → plain_members ms ≡ true → Fits path ms
  table_fits path no_members p = (0, 0, none_at_most, none_at_most, omega arith)
  table_fits path (member k d ms) p =
      let parts = and_parts (plain d) (plain_members ms) p in
      entry_fits path k d ms parts.0 (section_fits path k d parts.0) (table_fits path ms parts.1) (is_section d) refl

  section_fits : (path : List (List ℕ)) (k : List ℕ) (d : Data) → plain d ≡ true → AtMost (section (path, k) d)
      (key_size k + 4 + printed_size (under path + key_size k) d)
  section_fits path k (table ms) p =
      longer (section (path, k) (table ms)) _ _ (omega arith) (both_at_most (header_of (path, k) ms) (pairs ms
      ++ sections (path ++ k ∷ []) ms) _ _ (table_header path k ms)
      (table_at_most path k ms (table_fits (path ++ k ∷ []) ms p)))
  section_fits path k (array ds) p =
      longer (section (path, k) (array ds)) _ _ (omega arith)
      (elim (are_tables ds) as (λ b. AtMost (if b then elements (path, k) ds else [])
      (printed_items (under path + key_size k) ds)) [
        | true ↦ elements_fit path k ds p
        | false ↦ longer [] 0 _
            (omega arith) none_at_most
      ])
  section_fits path k d p = longer [] 0 _ (omega arith) none_at_most

  elements_fit : (path : List (List ℕ)) (k : List ℕ) (ds : Items) → plain_items ds ≡ true
      → AtMost (elements (path, k) ds) (printed_items (under path + key_size k) ds)
  elements_fit path k no_items p = none_at_most
  elements_fit path k (item (table ms) ds) p =
      let parts = and_parts (plain_members ms) (plain_items ds) p in
      longer (elements (path, k) (item (table ms) ds)) _ _ (omega arith) (both_at_most ((((path, k), array_table) ∷ [])
      ++ (pairs ms ++ sections (path ++ k ∷ []) ms)) (elements (path, k) ds) _ _
      (both_at_most (((path, k), array_table) ∷ []) (pairs ms ++ sections (path ++ k ∷ []) ms) _ _
      (array_header_at_most path k) (table_at_most path k ms (table_fits (path ++ k ∷ []) ms parts.0)))
      (elements_fit path k ds parts.1))
  elements_fit path k (item d ds) p =
      longer (elements (path, k) ds) _ _ (omega arith) (elements_fit path k ds (and_parts (plain d) (plain_items ds)
      p).1)

-- A DOCUMENT
pub printed_is_bounded : PrintedIsBounded
printed_is_bounded ms text p h =
    let (m, n, a, b, both) = table_fits [] ms p in
    omega (arith, both_at_most (pairs ms) (sections [] ms) m n a b false text h)
