-- HOW DEEP a text nests tables and arrays, as far as its headers, dotted keys and brackets say.
use Rattle.std.specs.Prelude.{ℕ, zero, suc, ◌+◌, ◌-◌, Bool, true, false, ◌&&◌, ◌||◌, ◌==◌, nat_lt, nat_le, if◌then◌else◌, List, [], ◌∷◌, ◌++◌, length, take, drop, count_by, Option, Some, None, option_map, unwrap_or, slice_get}
use Rattle.toml_parser.specs.Lexical.{first, line_feed, carriage_return, space, tab, hash, comma, dot, equals, left_bracket, right_bracket, left_brace, right_brace}
use Rattle.toml_parser.specs.Strings.{starts_string}
use Rattle.manifest_nesting.specs.Skipped.{after_string, after_comment}
use Rattle.manifest_nesting.specs.declared.nesting.Place.{Place}
use Rattle.manifest_nesting.specs.declared.nesting.Place.TheVariants.{LineStart, Header, Line}
use Rattle.manifest_nesting.specs.declared.nesting.Nesting.{Nesting}

-- one more dot; more than 129 of a key lead too deep as 129 do
abbrev pub count_up : ℕ → ℕ
count_up n = if nat_lt n 129 then n + 1 else n

-- nothing has been read
abbrev pub start : Nesting
start = record {
  place = LineStart;
  depth = 0;
  dots = 0;
  above = 0;
  outer = record { items = [] };
  arrays = false;
}

-- a key or a value has begun
abbrev pub begun_at : Place → Place
begun_at LineStart = Line
begun_at place = place

abbrev pub begun : Nesting → Nesting
begun n = record n { place = begun_at n.place }

-- another key or value comes next
abbrev pub separated : Nesting → Nesting
separated n = record n { dots = 0; above = 0 }

-- a line ends: the next one can be a header where no bracket is open
abbrev pub next_line : List ℕ → Place
next_line [] = LineStart
next_line (d ∷ ds) = Line

abbrev pub line_ended : Nesting → Nesting
line_ended n = record n { place = next_line n.outer.items; dots = 0; above = 0 }

-- a header begins, which has two brackets for an array of tables; each dot of it leads one table deeper
abbrev pub header : Nesting → Nesting
header n = record n { place = Header; depth = 1 }

abbrev pub dot_of_header : Nesting → Option Nesting
dot_of_header n = if nat_lt n.depth 128 then Some (record n { depth = n.depth + 1 }) else None

-- a bracket opens, in the tables of its key; there are never more open brackets than levels
abbrev pub opened : Nesting → Option Nesting
opened n =
    if nat_le (n.depth + n.above + 1) 128 && nat_lt (length n.outer.items) 128
    then Some (record n {
      place = Line;
      depth = n.depth + n.above + 1;
      dots = 0;
      above = 0;
      outer = record { items = n.outer.items ++ n.depth ∷ [] };
    })
    else None

-- a bracket closes: it is as deep again as before it
abbrev pub closed : Nesting → Nesting
closed n = record n {
  depth = unwrap_or (slice_get n.outer.items (length n.outer.items - 1)) n.depth;
  dots = 0;
  above = 0;
  outer = record { items = take (length n.outer.items - 1) n.outer.items };
}

-- the dots were those of a key: each leads one table deeper, after a header of an array of tables to 112 at most
abbrev pub dotted_limit : Nesting → ℕ
dotted_limit n = if n.arrays then 112 else 128

abbrev pub equals_sign : Nesting → Option Nesting
equals_sign n =
    if n.dots == 0 || nat_le (n.depth + n.dots) (dotted_limit n)
    then Some (record n { dots = 0; above = n.dots })
    else None

-- AFTER A BYTE of a key or a value, where it leads no deeper than a limit
abbrev pub after_in_line : ℕ → Nesting → Option Nesting
after_in_line c n =
    if c == left_bracket || c == left_brace then opened n
    else if c == right_bracket || c == right_brace then Some (closed n)
    else if c == dot then Some (record n { dots = count_up n.dots })
    else if c == equals then equals_sign n
    else if c == comma then Some (separated n)
    else Some (begun n)

abbrev pub after_in_header : ℕ → Nesting → Option Nesting
after_in_header c n =
    if c == dot then dot_of_header n
    else if c == left_bracket then Some (record n { arrays = true })
    else Some n

abbrev pub after_at_start : ℕ → Nesting → Option Nesting
after_at_start c n = if c == left_bracket then Some (header n) else after_in_line c n

abbrev pub after_at : Place → ℕ → Nesting → Option Nesting
after_at LineStart = after_at_start
after_at Header = after_in_header
after_at Line = after_in_line

-- the byte begins and ends nothing: a blank, or no ASCII, which stands in strings and comments alone
abbrev pub is_blank : ℕ → Bool
is_blank c = ((c == space || c == tab) || c == carriage_return) || nat_le 128 c

-- AFTER A BYTE that stands in no string and no comment
abbrev pub after_byte : ℕ → Nesting → Option Nesting
after_byte c n =
    if c == line_feed then Some (line_ended n)
    else if is_blank c then Some n
    else after_at n.place c n

-- after the next string, comment or byte of a text, where that leads no deeper than a limit; and what follows it
abbrev pub turn : Nesting → List ℕ → Option (Nesting × List ℕ)
turn n text =
    if starts_string text then Some (begun n, after_string text)
    else if first text == hash then Some (n, after_comment text)
    else option_map (λ m. (m, drop 1 text)) (after_byte (first text) n)

-- whether the rest of a text leads deeper, in this many turns at most
unfoldable pub scan : ℕ → Nesting → List ℕ → Bool
scan zero n text = false
scan (suc k) n [] = false
scan (suc k) n (c ∷ cs) =
    unwrap_or (option_map (λ p. scan k p.0 p.1) (turn n (c ∷ cs))) true

-- THE TEXT NESTS TOO DEEP: it has brackets, headers or dotted keys that lead deeper than 128, or dotted keys that lead
-- deeper than 112 after a header of an array of tables
abbrev pub nests_too_deep : List ℕ → Bool
nests_too_deep text = scan (length text) start text

-- MARKS: a byte that leads one deeper, where it leads anywhere; and how many of them a text has
abbrev pub is_mark : ℕ → Bool
is_mark c = (c == left_bracket || c == left_brace) || c == dot

abbrev pub marks : List ℕ → ℕ
marks text = count_by is_mark text

abbrev pub has_few_marks : List ℕ → Bool
has_few_marks text = nat_le (marks text) 112
