-- Edits of a text: each replaces one range of it and makes one change of its document.
use Rattle.std.specs.Prelude.{◌≡◌, ℕ, ◌+◌, ◌-◌, ◌≤◌, ◌==◌, Bool, true, ◌&&◌, ◌||◌, false, nat_le, if◌then◌else◌, [], ◌∷◌, ◌++◌, codes, ◌⊎◌, List, length, map, flat_map, reverse, count_by, slice_get, slice_index, Some, None, option_map, string_bytes, ⊤, All, Any, IsPermutation}
use Rattle.std.specs.List.{list_all, AllZip}
use Rattle.std.specs.List.Sorted.{IsNonDecreasingBy}
use Rattle.toml.specs.Data.{Data}
use Rattle.toml.specs.Parse.{parse_value}
use Rattle.toml_parser.specs.Lexical.{is_ws, skip_ws, skip_blank}
use Rattle.manifest_places.specs.Paths.{Text, Step, Path, key, index, path_of, document}
use Rattle.manifest_places.specs.Changes.{Change, ChangeAt, set, insert, remove, rename, insert_item, remove_item, change_at_of}
use Rattle.manifest_places.specs.Splices.{Splice, splice_of, range_of}
use Rattle.manifest_places.specs.Places.{Place, place_of, ArePlaces, IsEdited}
use Rattle.manifest_places.specs.Headers.{brackets, IsHeader, AreHeaders}
use Rattle.manifest_places.specs.Keys.{Span, whole_key, key_before, key_steps, IsKey}
use Rattle.manifest_places.specs.declared.edits.Edit.{Edit as CodeEdit}
use Rattle.manifest_places.specs.declared.edits.Edit.TheVariants.{Set, Insert, Remove, Rename}
use Rattle.manifest_places.specs.declared.edits.EditError.{EditError}
use Rattle.manifest_places.specs.declared.edits.EditError.TheVariants.{NotADocument, NotAValue, NoPlace, Overlap, Refused, Memory}
use Rattle.manifest_places.specs.declared.planning.Plan.{Plan as CodePlan}

-- what is to be done: another value at a path, a new entry or item at a path, nothing more at a path, and another key
-- for what is at a path
pub data Edit : Type 0 where
  set_value : Path → Text → Edit
  insert_value : Path → Text → Edit
  remove_value : Path → Edit
  rename_key : Path → Text → Edit

abbrev pub edit_of : CodeEdit → Edit
edit_of (Set p v) = set_value (path_of p.items) (string_bytes v)
edit_of (Insert p v) = insert_value (path_of p.items) (string_bytes v)
edit_of (Remove p) = remove_value (path_of p.items)
edit_of (Rename p k) = rename_key (path_of p.items) (string_bytes k)

-- how an edit is made: the values and the headers that it is about, if any, what is replaced, and what changes
pub record Plan : Type 0 where
  pub edit : Edit
  pub places : List Place
  pub headers : List Place
  pub splices : List Splice
  pub change : ChangeAt

abbrev pub plan_of : CodePlan → Plan
plan_of p = record {
  edit = edit_of p.edit;
  places = map place_of p.places.items;
  headers = map place_of p.headers.items;
  splices = map splice_of p.splices.items;
  change = change_at_of p.change;
}

-- the parts of plans
abbrev pub edit_in : Plan → Edit
edit_in p = p.edit

abbrev pub places_in : Plan → List Place
places_in p = p.places

abbrev pub headers_in : Plan → List Place
headers_in p = p.headers

abbrev pub splices_in : Plan → List Splice
splices_in p = p.splices

abbrev pub change_in : Plan → ChangeAt
change_in p = p.change

-- what puts in an entry or an item that a step leads to
abbrev pub inserted_by : Step → Data → Change
inserted_by (key k) e = insert k e
inserted_by (index i) e = insert_item i e

-- the change puts in this at the path
abbrev pub Inserts : Path → Data → ChangeAt → Type 0
Inserts p e c =
    (front : Path) × (last : Step) × (p ≡ front ++ last ∷ []) × (c ≡ (front, inserted_by last e))

-- what takes out the entry or the item that a step leads to
abbrev pub removed_by : Step → Change
removed_by (key k) = remove k
removed_by (index i) = remove_item i

-- the change takes out what is at the path
abbrev pub Removes : Path → ChangeAt → Type 0
Removes p c =
    (front : Path) × (last : Step) × (p ≡ front ++ last ∷ []) × (c ≡ (front, removed_by last))

-- the change gives what is at the path this key
abbrev pub Renames : Path → Text → ChangeAt → Type 0
Renames p l c = (front : Path) × (k : Text) × (p ≡ front ++ key k ∷ []) × (c ≡ (front, rename k l))

-- the range that is replaced
abbrev pub span_from : Splice → Span
span_from s = record { from = s.from; to = s.to }

-- where an entry or an item begins: at its key, or at its value
abbrev pub start_of : Place → List Span → ℕ
start_of p [] = p.from
start_of p (s ∷ ss) = s.from

-- white space and line ends, and commas
abbrev pub is_blank : ℕ → Bool
is_blank b = (is_ws b || b == 10) || b == 13

abbrev pub is_blank_or_comma : ℕ → Bool
is_blank_or_comma b = is_blank b || b == 44

abbrev pub feeds : Text → ℕ
feeds text = count_by (λ b. b == 10) text

abbrev pub commas : Text → ℕ
commas text = count_by (λ b. b == 44) text

-- together there is one at most
abbrev pub one_at_most : ℕ → ℕ → Bool
one_at_most a b = if a == 0 then nat_le b 1 else (a == 1 && b == 0)

-- What is taken out before and after an entry is the rest of its line: blanks before, no line feed after but at the
-- end, and one line feed at most.
abbrev pub ends_once : Text → Bool
ends_once trail = feeds trail == 0 || slice_index trail (length trail - 1) == 10

abbrev pub is_line : Text → Text → Bool
is_line lead trail =
    (list_all is_blank lead && ends_once trail) && one_at_most (feeds lead) (feeds trail)

-- It is blanks and one comma at most.
abbrev pub is_gap : Text → Text → Bool
is_gap lead trail =
    (list_all is_blank_or_comma lead && list_all is_blank_or_comma trail)
    && one_at_most (commas lead) (commas trail)

-- the range takes out the value and its key, with the rest of their line, or with one comma
abbrev pub TakesEntry : Text → Place → List Span → Splice → Type 0
TakesEntry text p parts s =
    (s.put ≡ []) × (s.from ≤ start_of p parts) × (p.to ≤ s.to)
    × ((is_line (range_of text s.from (start_of p parts)) (range_of text p.to s.to)
    || is_gap (range_of text s.from (start_of p parts)) (range_of text p.to s.to)) ≡ true)

-- nothing but blanks, line ends and comments stands from a to b
abbrev pub IsTrivia : Text → ℕ → ℕ → Type 0
IsTrivia text a b = (a ≤ b) × (skip_blank (range_of text a b) ≡ [])

-- the range is a comma that stands before n, with nothing but blanks, line ends and comments between
abbrev pub IsCommaBefore : Text → Span → ℕ → Type 0
IsCommaBefore text comma n =
    (range_of text comma.from comma.to ≡ codes ",") × IsTrivia text comma.to n

-- the range is blanks from n on, with one line feed at most
abbrev pub IsBlankAfter : Text → Span → ℕ → Type 0
IsBlankAfter text blank n =
    (blank.from ≡ n) × (is_line (range_of text blank.from blank.to) [] ≡ true)

-- one more range is taken out next to an entry: a comma before it, or a blank line after it
abbrev pub TakesMore : Text → Splice → Splice → Type 0
TakesMore text s more =
    (more.put ≡ [])
    × (IsCommaBefore text (span_from more) s.from ⊎ IsBlankAfter text (span_from more) s.to)

-- an entry is taken out, and maybe one more range next to it
abbrev pub TakesOut : Text → Place → List Span → List Splice → Type 0
TakesOut text p parts (s ∷ []) = TakesEntry text p parts s
TakesOut text p parts (s ∷ more ∷ []) = TakesEntry text p parts s × TakesMore text s more
TakesOut text p parts _ = ⊥

-- the range is the part of a key that leads to the path p, on the way to the value at this place
abbrev pub IsPartOf : Path → Place → List Span → Span → Type 0
IsPartOf p place parts part =
    (j : ℕ) × (more : Path) × (place.path ≡ p ++ more) × (slice_get parts j ≡ Some part)
    × (length parts ≡ j + length more + 1)

-- the text is a key of the last steps of the path, with `=` after it
abbrev pub EndsIn : Path → Text → Type 0
EndsIn p name =
    (base : Path) × (more : Path) × (p ≡ base ++ more)
    × (option_map key_steps (key_before name) ≡ Some more)

-- The text has the new value in it, as it was given, after its key, if it has one, and maybe under a header of its own;
-- and else blanks and commas, so that no comment is in it.
pub record HoldsEntry (p : Path) (value : Text) (put : Text) : Type 0 where
  pub lead : Text
  pub header : Text
  pub gap : Text
  pub name : Text
  pub trail : Text
  pub whole : put ≡ lead ++ (header ++ (gap ++ (name ++ (value ++ trail))))
  pub blank_lead : list_all is_blank_or_comma lead ≡ true
  pub is_header : (header ≡ []) ⊎ IsHeader header
  pub blank_gap : list_all is_blank_or_comma gap ≡ true
  pub is_name : (name ≡ []) ⊎ EndsIn p name
  pub blank_trail : list_all is_blank_or_comma trail ≡ true

abbrev pub IsPut : Path → Text → Splice → Type 0
IsPut p value s = (s.from ≡ s.to) × HoldsEntry p value s.put

-- a comma is put in before it, with nothing but blanks, line ends and comments between
abbrev pub IsComma : Text → Splice → Splice → Type 0
IsComma text s comma =
    (comma.from ≡ comma.to) × (comma.put ≡ codes ",") × IsTrivia text comma.to s.from

-- nothing is taken out, and one text is put in that has the new value in it, and maybe a comma before it
abbrev pub PutsIn : Text → Path → Text → List Splice → Type 0
PutsIn text p value (s ∷ []) = IsPut p value s
PutsIn text p value (s ∷ comma ∷ []) = IsPut p value s × IsComma text s comma
PutsIn text p value _ = ⊥

-- a text in the place of a range
abbrev pub in_place_of : Span → Text → Splice
in_place_of range put = record { from = range.from; to = range.to; put = put }

-- the range is the part of an entry's key that leads to the path p, and this text takes its place
abbrev pub RenamesKey : Text → Path → Text → Place → Splice → Type 0
RenamesKey text p put place s =
    (parts : List Span) × (part : Span) × IsKey text place parts × IsPartOf p place parts part
    × (s ≡ in_place_of part put)

-- the keys among the steps of a path
abbrev pub key_only : Step → Path
key_only (key k) = key k ∷ []
key_only (index i) = []

abbrev pub keys_in : Path → Path
keys_in p = flat_map key_only p

-- where the key of a header begins
abbrev pub key_start : Text → Place → ℕ
key_start text h = h.from + brackets (range_of text h.from h.to)

-- The range is the part of the header's key that leads to the path p: the key up to its end is that of the path, it
-- alone is the key of the last step, and it ends in no white space.
pub record IsPartOfHeader (text : Text) (p : Path) (h : Place) (part : Span) : Type 0 where
  pub more : Path
  pub base : Path
  pub last : Path
  pub leads : h.path ≡ p ++ more
  pub ends : p ≡ base ++ last
  pub one : length last ≡ 1
  pub begin : key_start text h ≤ part.from
  pub end : part.to ≤ h.to
  pub whole :
      option_map key_steps (whole_key (skip_ws (range_of text (key_start text h) part.to)))
      ≡ Some (keys_in p)
  pub alone : option_map key_steps (whole_key (range_of text part.from part.to)) ≡ Some last
  pub solid : is_ws (slice_index text (part.to - 1)) ≡ false

-- and this text takes its place
abbrev pub RenamesHeader : Text → Path → Text → Place → Splice → Type 0
RenamesHeader text p put h s =
    (part : Span) × IsPartOfHeader text p h part × (s ≡ in_place_of part put)

-- in keys of entries and of headers the parts that lead to the path p are replaced by one text
abbrev pub RenamesParts :
    Text → Path → Text → List Place → List Splice → List Place → List Splice → Type 0
RenamesParts text p put places by_key headers by_header =
    AllZip (RenamesKey text p put) places by_key
    × AllZip (RenamesHeader text p put) headers by_header

-- so by a text that is the key k
abbrev pub RenamesBy :
    Text → Path → Text → List Place → List Splice → List Place → List Splice → Type 0
RenamesBy text p k places by_key headers by_header =
    (put : Text) × (option_map key_steps (whole_key put) ≡ Some (key k ∷ []))
    × RenamesParts text p put places by_key headers by_header

-- and nothing else is
abbrev pub RenamesAll : Text → Path → Text → List Place → List Place → List Splice → Type 0
RenamesAll text p k places headers splices =
    (by_key : List Splice) × (by_header : List Splice) × (splices ≡ by_key ++ by_header)
    × RenamesBy text p k places by_key headers by_header

-- How each edit is made. A value is replaced by the value's own range; an entry is put in, and nothing is taken out; a
-- value is taken out with its key and the rest of its line, or with one comma; of keys one part is replaced.
abbrev pub IsPlanned :
    Text → Edit → List Place → List Place → List Splice → ChangeAt → Type 0
IsPlanned text (set_value p value) places headers splices c =
    (place : Place) × (e : Data) × (places ≡ place ∷ []) × (headers ≡ []) × (place.path ≡ p)
    × (parse_value value ≡ Some e)
    × (splices ≡ record { from = place.from; to = place.to; put = value } ∷ []) × (c ≡ (p, set e))
IsPlanned text (insert_value p value) places headers splices c =
    (e : Data) × (places ≡ []) × (headers ≡ []) × (parse_value value ≡ Some e)
    × PutsIn text p value splices × Inserts p e c
IsPlanned text (remove_value p) places headers splices c =
    (place : Place) × (parts : List Span) × (places ≡ place ∷ []) × (headers ≡ [])
    × (place.path ≡ p) × IsKey text place parts × TakesOut text place parts splices
    × Removes p c
IsPlanned text (rename_key p k) places headers splices c =
    RenamesAll text p k places headers splices × Renames p k c

abbrev pub IsPlan : Text → Plan → Type 0
IsPlan text p = IsPlanned text p.edit p.places p.headers p.splices p.change

-- there is a plan for each of the edits
abbrev pub ArePlans : Text → List Edit → List Plan → Type 0
ArePlans text edits plans =
    IsPermutation edits (map edit_in plans) × All (IsPlan text) plans

-- the same places, in the order in which they begin
abbrev pub AreInOrder : List Place → List Place → Type 0
AreInOrder places ordered =
    IsPermutation places ordered × IsNonDecreasingBy (λ p. p.from) ordered

-- these are the headers of their tables, if there are any
abbrev pub AreOpened : Text → List Place → Type 0
AreOpened text headers =
    (headers ≡ []) ⊎ ((ordered : List Place) × AreInOrder headers ordered × AreHeaders text ordered)

-- The new text is made by these edits, all of them: there is a plan for each, in the order of the text; the places of
-- the values that they are about are places, and the headers are headers; what is replaced, in the order of the text, is
-- what the plans replace; and the new text is the old one but for that, and its document the old one with the changes,
-- made from the last to the first. So indexes count in the old text.
pub record IsEdit (text : Text) (edits : List Edit) (replaced : List Splice) (new : Text)
    : Type 0 where
  pub plans : List Plan
  pub places : List Place
  pub planned : ArePlans text edits plans
  pub ordered : AreInOrder (flat_map places_in plans) places
  pub there : ArePlaces text places
  pub opened : AreOpened text (flat_map headers_in plans)
  pub whole : IsPermutation (flat_map splices_in plans) replaced
  pub edited : IsEdited text replaced (reverse (map change_in plans)) new

-- what is given as a value is not one value alone
abbrev pub HasNoValue : Edit → Type 0
HasNoValue (set_value p value) = parse_value value ≡ None
HasNoValue (insert_value p value) = parse_value value ≡ None
HasNoValue (remove_value p) = ⊥
HasNoValue (rename_key p k) = ⊥

-- why there is no plan of an edit
abbrev pub NoPlan : Edit → EditError → Type 0
NoPlan edit NotADocument = ⊥
NoPlan edit NotAValue = HasNoValue edit
NoPlan edit NoPlace = ⊤
NoPlan edit Overlap = ⊥
NoPlan edit Refused = ⊥
NoPlan edit Memory = ⊤

-- why plans make no new text: the values that they are about have no places all at once, or what they replace does not
-- make the document with their changes
abbrev pub MakeNone : Text → List Plan → EditError → Type 0
MakeNone text plans NotADocument = ⊥
MakeNone text plans NotAValue = ⊥
MakeNone text plans NoPlace = ⊤
MakeNone text plans Overlap =
    (places : List Place) × AreInOrder (flat_map places_in plans) places
    × (ArePlaces text places → ⊥)
MakeNone text plans Refused =
    (replaced : List Splice) × IsPermutation (flat_map splices_in plans) replaced
    × ((new : Text) → IsEdited text replaced (reverse (map change_in plans)) new → ⊥)
MakeNone text plans Memory = ⊤

-- Why edits are not made. Of a path without a place, and of memory, nothing more is said.
abbrev pub IsReason : Text → List Edit → EditError → Type 0
IsReason text edits NotADocument = document text ≡ None
IsReason text edits NotAValue = Any HasNoValue edits
IsReason text edits NoPlace = ⊤
IsReason text edits Overlap =
    (plans : List Plan) × ArePlans text edits plans × MakeNone text plans Overlap
IsReason text edits Refused =
    (plans : List Plan) × ArePlans text edits plans × MakeNone text plans Refused
IsReason text edits Memory = ⊤
