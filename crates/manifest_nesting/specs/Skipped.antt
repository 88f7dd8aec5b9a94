-- What follows a string or a comment of a text.
use Rattle.std.specs.Prelude.{ℕ, Bool, true, false, not, ◌&&◌, ◌==◌, if◌then◌else◌, List, [], ◌∷◌, drop, slice_index}
use Rattle.toml_parser.specs.Lexical.{line_feed, quote, backslash, first}

-- the byte at a place, or 0
abbrev pub byte_at : ℕ → List ℕ → ℕ
byte_at i text = slice_index text i

-- the text begins with three quotes, and no fourth: they end a string of several lines
abbrev pub has_last_three : ℕ → List ℕ → Bool
has_last_three q text =
    ((slice_index text 0 == q && slice_index text 1 == q) && slice_index text 2 == q)
    && not (slice_index text 3 == q)

-- AFTER THE CONTENT of a string: after the quote that ends it, or the last three. Between `"` a backslash escapes a
-- byte
unfoldable pub after_content : Bool → ℕ → Bool → List ℕ → List ℕ
after_content several q escaped [] = []
after_content several q escaped (c ∷ cs) =
    if escaped then after_content several q false cs
    else if several && has_last_three q (c ∷ cs) then drop 2 cs
    else if not several && c == q then cs
    else after_content several q (c == backslash && q == quote) cs

-- AFTER A STRING, at its quote: three quotes begin one of several lines
abbrev pub after_string : List ℕ → List ℕ
after_string text =
    if slice_index text 1 == first text && slice_index text 2 == first text
    then after_content true (first text) false (drop 3 text)
    else after_content false (first text) false (drop 1 text)

-- AFTER A COMMENT: at the end of its line
unfoldable pub after_comment : List ℕ → List ℕ
after_comment [] = []
after_comment (c ∷ cs) = if c == line_feed then c ∷ cs else after_comment cs
