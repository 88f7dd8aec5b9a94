-- A printed document leads as deep as its table does.
use Rattle.std.proofs.Common.{◌≡◌, ℕ, suc, ◌+◌, ◌≤◌, max, Bool, true, false, not, if◌then◌else◌, List, [], ◌∷◌, ◌++◌, length, codes, refl, inl, inr, append_assoc, append-nil, length-append, add-zero, lt-ltb, arith}
use Rattle.std.proofs.lemmas.Bool.{cases_Bool, and_parts, or_parts, not-false, false≢true}
use Rattle.toml_writer.specs.Text.{key_text, path_text}
use Rattle.toml_writer.proofs.Scalars.{IsWord-integer}
use Rattle.toml_writer.proofs.Strings.{NotDelim, EndsKey}
use Rattle.toml.specs.Data.{Data, string, integer, float, boolean, datetime, array, table, Items, no_items, item, Members, no_members, member, depth, items_depth, members_depth}
use Rattle.toml.specs.Tables.{Expression, key_value, std_table, array_table}
use Rattle.toml.specs.Text.{IsValueText, IsItemsText, IsMembersText, IsLinesText, before_item, before_member, breaks_lines, gap, is_section, are_tables, has_pairs, needs_header, pairs, sections, section, elements}
use Rattle.manifest_nesting.specs.declared.nesting.Place.TheVariants.{LineStart, Header, Line}
use Rattle.manifest_schema.specs.Kinds.{plain, plain_items, plain_members}
use Rattle.manifest_nesting.specs.Laws.{PrintedNestsAsItIs}
use Rattle.manifest_nesting.proofs.DateWords.{datetime_words}
use Rattle.manifest_nesting.proofs.Steps.{at, Fine, fine_end, fine_turn, word_fine, key_fine, value_string_fine, equals_fine, open_fine, close_fine}

-- an array stands on one line
one_line : (ds : Items) → breaks_lines false ds ≡ false
one_line ds = grind arith

-- no quote follows an item
items_end : (ds : Items) (text rest : List ℕ) → IsItemsText false false false ds text → NotDelim (text ++ rest)
items_end no_items text rest h = rw h (refl, refl)
items_end (item d ds) text rest (this, more, whole, e, h) = rw whole (refl, refl)

-- nor a member
members_end : (ms : Members) (text rest : List ℕ) → IsMembersText false false ms text → NotDelim (text ++ rest)
members_end no_members text rest h = rw h (refl, refl)
members_end (member k d ms) text rest (this, more, whole, e, h, order) = rw whole (refl, refl)

-- the dots of a value end before the next one
before_item_fine : {a : Bool} (is_first : Bool) (d i : ℕ) (o rest : List ℕ) → ((j : ℕ) → Fine (at a Line d j o) rest)
    → Fine (at a Line d i o) (before_item false is_first ++ rest)
before_item_fine true d i o rest h = h i
before_item_fine false d i o rest h = fine_turn refl (fine_turn refl (h 0))

-- those of a member too
before_member_fine : {a : Bool} (is_first : Bool) (d i : ℕ) (o rest : List ℕ) → Fine (at a Line d 0 o) rest
    → Fine (at a Line d (if is_first then 0 else i) o) (before_member is_first ++ rest)
before_member_fine true d i o rest h = fine_turn refl h
before_member_fine false d i o rest h = fine_turn refl (fine_turn refl h)

-- room for a value of this many levels, in these open brackets
abbrev Fits : ℕ → List ℕ → ℕ → Type 0
Fits d o levels = (d + levels ≤ 128) × (length o + levels ≤ 128)

-- room for the first of two within one bracket more, and for what follows it
fits_both : (d m n : ℕ) (o : List ℕ) → Fits d o (suc (max m n)) → Fits (d + 1) (o ++ d ∷ []) m × Fits d o (suc n)
fits_both d m n o fits = ((omega arith, omega (arith, length-append o (d ∷ []))), (omega arith, omega arith))

-- VALUES, items and members on the right of `=`
mutual
  value_fine : {a : Bool} (x : Data) (text rest : List ℕ) (d i : ℕ) (o : List ℕ) → plain x ≡ true
      → IsValueText false x text
      → Fits d o (depth x) → NotDelim rest → ((j : ℕ) → Fine (at a Line d j o) rest) → Fine (at a Line d i o) (text
      ++ rest)
  value_fine (string s) text rest d i o p e fits stop h = rw e (value_string_fine d i o s rest stop (h i))
  value_fine (integer z) text rest d i o p e fits stop h =
      rw e.0 (word_fine _ rest d i o (IsWord-integer z e.1).all h)
  value_fine (float x) text rest d i o p e fits stop h = absurd (false≢true p)
  value_fine (boolean true) text rest d i o p e fits stop h =
      rw e (word_fine (codes "true") rest d i o refl h)
  value_fine (boolean false) text rest d i o p e fits stop h =
      rw e (word_fine (codes "false") rest d i o refl h)
  value_fine (datetime dt) text rest d i o p e fits stop h =
      rw e (word_fine _ rest d i o (datetime_words dt) h)
  value_fine (array ds) text rest d i o p (more, whole, e) fits stop h =
      rw whole (open_fine true d i o (more ++ rest) (omega arith) (omega arith)
      (items_fine true ds more rest d 0 o p (rw one_line at e) (omega arith, omega arith) (h 0)))
  value_fine (table ms) text rest d i o p (more, whole, e) fits stop h =
      rw whole (open_fine false d i o (more ++ rest) (omega arith) (omega arith)
      (members_fine true ms more rest d 0 o p e (omega arith, omega arith) (h 0)))

  items_fine : {a : Bool} (is_first : Bool) (ds : Items) (text rest : List ℕ) (d i : ℕ) (o : List ℕ)
      → plain_items ds ≡ true
      → IsItemsText false false is_first ds text → Fits d o (suc (items_depth ds)) → Fine (at a Line d 0 o) rest
      → Fine (at a Line (d + 1) i (o ++ d ∷ [])) (text ++ rest)
  items_fine is_first no_items text rest d i o p e fits h = rw e (close_fine true d (d + 1) i o rest h)
  items_fine is_first (item x ds) text rest d i o p (this, more, whole, e, under) fits h =
      let parts = and_parts (plain x) (plain_items ds) p in
      let room = fits_both d (depth x) (items_depth ds) o fits in
      let same : text ++ rest ≡ before_item false is_first ++ (this ++ (more ++ rest)) = rw whole (simp append_assoc) in
      let stop = items_end ds more rest under in
      rw same (before_item_fine is_first (d + 1) i (o ++ d ∷ []) (this ++ (more ++ rest))
      (λ j. value_fine x this (more ++ rest) (d + 1) j (o ++ d ∷ []) parts.0 e room.0 stop
      (λ l. items_fine false ds more rest d l o parts.1 under room.1 h)))

  members_fine : {a : Bool} (is_first : Bool) (ms : Members) (text rest : List ℕ) (d i : ℕ) (o : List ℕ)
      → plain_members ms ≡ true
      → IsMembersText false is_first ms text → Fits d o (suc (members_depth ms)) → Fine (at a Line d 0 o) rest
      → Fine (at a Line (d + 1) (if is_first then 0 else i) (o ++ d ∷ [])) (text ++ rest)
  members_fine true no_members text rest d i o p e fits h = rw e (close_fine false d (d + 1) 0 o rest h)
  members_fine false no_members text rest d i o p e fits h =
      rw e (fine_turn refl (close_fine false d (d + 1) i o rest h))
  members_fine is_first (member k x ms) text rest d i o p (this, more, whole, e, under, order) fits h =
      let parts = and_parts (plain x) (plain_members ms) p in
      let room = fits_both d (depth x) (members_depth ms) o fits in
      let value_at = this ++ (more ++ rest) in
      let equals = 32 ∷ 61 ∷ 32 ∷ value_at in
      let same : text ++ rest ≡ before_member is_first ++ (key_text k ++ equals) = rw whole (simp append_assoc) in
      let stop = members_end ms more rest under in
      rw same (before_member_fine is_first (d + 1) i (o ++ d ∷ []) (key_text k ++ equals)
      (key_fine Line (d + 1) 0 (o ++ d ∷ []) k equals ((refl, refl), refl)
      (equals_fine (d + 1) (o ++ d ∷ []) value_at
      (value_fine x this (more ++ rest) (d + 1) 0 (o ++ d ∷ []) parts.0 e room.0 stop
      (λ l. members_fine false ms more rest d l o parts.1 under room.1 h)))))

-- LINES: their text leads no deeper, after a header that leads to a depth d
abbrev FineAt : ℕ → List Expression → Type 0
FineAt d es = (started a : Bool) (text : List ℕ) → IsLinesText false started es text → Fine (at a LineStart d 0 []) text

-- nor after any other header
abbrev AllFine : List Expression → Type 0
AllFine es = (d : ℕ) → FineAt d es

-- A PAIR on a line
pair_fine : (k : List ℕ) (x : Data) (d : ℕ) (fs : List Expression) → plain x ≡ true → d + depth x ≤ 128
    → FineAt d fs → FineAt d ((([], k), key_value x) ∷ fs)
pair_fine k x d fs p low h started a text (this, rest, whole, (v, line, e), more) =
    let end = 10 ∷ rest in
    let equals = 32 ∷ 61 ∷ 32 ∷ (v ++ end) in
    let same : text ≡ key_text k ++ equals = rw (whole, line) (simp append_assoc) in
    rw same (key_fine LineStart d 0 [] k equals ((refl, refl), refl) (equals_fine d [] (v ++ end)
    (value_fine x v end d 0 [] p e (omega arith, omega arith) (refl, refl) (λ j. fine_turn refl (h true a rest more)))))

-- HEADERS: each part of the path is one table deeper
path_fine : {a : Bool} (path : List (List ℕ)) (k rest : List ℕ) (d : ℕ) → d + length path ≤ 128 → EndsKey rest
    → Fine (at a Header (d + length path) 0 []) rest → Fine (at a Header d 0 []) (path_text path
    ++ (key_text k ++ rest))
path_fine [] k rest d low stop h = key_fine Header d 0 [] k rest stop (rw add-zero at h)
path_fine (l ∷ path) k rest d low stop h =
    let more = path_text path ++ (key_text k ++ rest) in
    let front : path_text (l ∷ path) ++ (key_text k ++ rest) ≡ key_text l ++ 46 ∷ more = simp append_assoc in
    let deeper : d + suc (length path) ≡ d + 1 + length path = omega arith in
    rw front (key_fine Header d 0 [] l (46 ∷ more) ((refl, refl), refl) (fine_turn (rw (lt-ltb d 128 (omega arith)))
    (path_fine path k rest (d + 1) (omega arith) stop (rw deeper at h))))

-- an empty line
gap_fine : {a : Bool} (started : Bool) (d : ℕ) (rest : List ℕ) → Fine (at a LineStart d 0 []) rest
    → Fine (at a LineStart d 0 []) (gap started ++ rest)
gap_fine true d rest h = fine_turn refl h
gap_fine false d rest h = h

-- a header of a table, and of an element of an array of tables
header_fine : (is_array : Bool) (path : List (List ℕ)) (k : List ℕ) (fs : List Expression) → 1 + length path ≤ 128
    → FineAt (1 + length path) fs → AllFine (((path, k), if is_array then array_table else std_table) ∷ fs)
header_fine true path k fs low h d started a text (this, rest, whole, line, more) =
    let end = 93 ∷ 93 ∷ 10 ∷ rest in
    let key_at = path_text path ++ (key_text k ++ end) in
    let same : text ≡ gap started ++ 91 ∷ 91 ∷ key_at = rw (whole, line) (simp append_assoc) in
    let below = fine_turn refl (h true true rest more) in
    let closed = fine_turn {rest = 93 ∷ 10 ∷ rest} refl (fine_turn {rest = 10 ∷ rest} refl below) in
    rw same (gap_fine started d (91 ∷ 91 ∷ key_at) (fine_turn {rest = 91 ∷ key_at} refl (fine_turn refl
    (path_fine path k end 1 low ((refl, refl), refl) closed))))
header_fine false path k fs low h d started a text (this, rest, whole, line, more) =
    let end = 93 ∷ 10 ∷ rest in
    let key_at = path_text path ++ (key_text k ++ end) in
    let same : text ≡ gap started ++ 91 ∷ key_at = rw (whole, line) (simp append_assoc) in
    let closed = fine_turn {rest = 10 ∷ rest} refl (fine_turn refl (h true a rest more)) in
    rw same (gap_fine started d (91 ∷ key_at) (fine_turn refl (path_fine path k end 1 low ((refl, refl), refl) closed)))

-- TABLES: the pairs of a table, and the tables inside it
pairs_fine : (ms : Members) (d : ℕ) (fs : List Expression) → plain_members ms ≡ true → d + members_depth ms ≤ 128
    → FineAt d fs → FineAt d (pairs ms ++ fs)
pairs_fine no_members d fs p low h = h
pairs_fine (member k x ms) d fs p low h =
    let parts = and_parts (plain x) (plain_members ms) p in
    let more = pairs_fine ms d fs parts.1 (omega arith) h in
    elim (cases_Bool (is_section x)) [
      | inl in_section ↦ rw in_section more
      | inr pair ↦ rw pair (pair_fine k x d (pairs ms ++ fs) parts.0 (omega arith) more)
    ]

-- a table without a header has no pairs
no_pairs : (ms : Members) → needs_header ms ≡ false → pairs ms ≡ []
no_pairs no_members h = refl
no_pairs (member k x no_members) h = rw (not-false (is_section x) (or_parts (not (is_section x)) false h).0)
no_pairs (member k x (member l y ms)) h =
    let both = or_parts (not (is_section x)) (has_pairs (member l y ms)) h in
    rw (not-false (is_section x) both.0) (no_pairs (member l y ms) both.1)

-- the lines below the header of a table
table_fine : (ms : Members) (path : List (List ℕ)) (k : List ℕ) (fs : List Expression) → plain_members ms ≡ true
    → 1 + length path + members_depth ms ≤ 128 → AllFine (sections (path ++ k ∷ []) ms ++ fs)
    → FineAt (1 + length path) ((pairs ms ++ sections (path ++ k ∷ []) ms) ++ fs)
table_fine ms path k fs p low below =
    let d = 1 + length path in
    rw (append_assoc (pairs ms)) (pairs_fine ms d (sections (path ++ k ∷ []) ms ++ fs) p low (below d))

-- the tables inside a table, one of them, and the elements of an array of tables
mutual
  sections_fine : (ms : Members) (path : List (List ℕ)) (fs : List Expression) → plain_members ms ≡ true
      → length path + members_depth ms ≤ 128 → AllFine fs → AllFine (sections path ms ++ fs)
  sections_fine no_members path fs p low h = h
  sections_fine (member k x ms) path fs p low h =
      let parts = and_parts (plain x) (plain_members ms) p in
      rw (append_assoc (section (path, k) x)) (section_fine x path k (sections path ms ++ fs) parts.0 (omega arith)
      (sections_fine ms path fs parts.1 (omega arith) h))

  section_fine : (x : Data) (path : List (List ℕ)) (k : List ℕ) (fs : List Expression) → plain x ≡ true
      → length path + depth x ≤ 128 → AllFine fs → AllFine (section (path, k) x ++ fs)
  section_fine (table ms) path k fs p low h =
      let below = sections_fine ms (path ++ k ∷ []) fs p (omega (arith, length-append path (k ∷ []))) h in
      elim (cases_Bool (needs_header ms)) [
        | inl needed ↦ rw needed (header_fine false path k _ (omega arith) (table_fine ms path k fs p (omega arith)
            below))
        | inr none ↦ rw (none, no_pairs ms none) below
      ]
  section_fine (array ds) path k fs p low h =
      elim (cases_Bool (are_tables ds)) [
        | inl all ↦ rw all (elements_fine ds path k fs p low h)
        | inr other ↦ rw other h
      ]
  section_fine x path k fs p low h = h

  elements_fine : (ds : Items) (path : List (List ℕ)) (k : List ℕ) (fs : List Expression) → plain_items ds ≡ true
      → length path + suc (items_depth ds) ≤ 128 → AllFine fs → AllFine (elements (path, k) ds ++ fs)
  elements_fine no_items path k fs p low h = h
  elements_fine (item (table ms) ds) path k fs p low h =
      let parts = and_parts (plain_members ms) (plain_items ds) p in
      let more = elements_fine ds path k fs parts.1 (omega arith) h in
      let others = elements (path, k) ds ++ fs in
      let below = sections_fine ms (path ++ k ∷ []) others parts.0 (omega (arith, length-append path (k ∷ []))) more in
      rw (append_assoc (pairs ms ++ sections (path ++ k ∷ []) ms) (elements (path, k) ds) fs)
      (header_fine true path k _ (omega arith) (table_fine ms path k others parts.0 (omega arith) below))
  elements_fine (item x ds) path k fs p low h =
      elements_fine ds path k fs (and_parts (plain x) (plain_items ds) p).1 (omega arith) h

-- A DOCUMENT
pub printed_nests_as_it_is : PrintedNestsAsItIs
printed_nests_as_it_is ms text p low h =
    let end : AllFine [] = λ d started a text h. rw h (fine_end (at a LineStart d 0 [])) in
    let below : AllFine (sections [] ms) = rw append-nil at (sections_fine ms [] [] p (omega arith) end) in
    (pairs_fine ms 0 (sections [] ms) p (omega arith) (below 0) false false text h).turns (length text)
