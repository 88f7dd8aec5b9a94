-- The value that some bytes hold.
use Rattle.std.specs.Prelude.{ℕ, zero, suc, ◌==◌, nat_lt, List, [], ◌∷◌, length, take, drop, true, false, if◌then◌else◌, pos, negsuc, Option, Some, None}
use Rattle.toml_datetime.specs.declared.datetime.Date.{Date}
use Rattle.toml_datetime.specs.declared.datetime.Time.{Time}
use Rattle.toml_datetime.specs.declared.datetime.Offset.{Offset}
use Rattle.toml_datetime.specs.declared.datetime.Offset.TheVariants.{Z, Custom}
use Rattle.toml_datetime.specs.declared.datetime.Datetime.{Datetime}
use Rattle.toml.specs.Data.{Data, string, integer, boolean, datetime, array, table, Items, no_items, item, Members, no_members, member}
use Rattle.manifest_bytes.specs.Numbers.{Taken, take_number}

-- what is read, passed through a function
abbrev pub map_taken : {A B : Type 0} → (A → B) → Taken A → Taken B
map_taken f None = None
map_taken f (Some r) = Some (f r.0, r.1)

-- what is read after it
abbrev pub and_then : {A B : Type 0} → Taken A → (A → List ℕ → Taken B) → Taken B
and_then None next = None
and_then (Some r) next = next r.0 r.1

-- A BYTE
abbrev pub take_byte : List ℕ → Taken ℕ
take_byte [] = None
take_byte (b ∷ bs) = Some (b, bs)

-- A TEXT
abbrev pub take_front : ℕ → List ℕ → Taken (List ℕ)
take_front n bs = if nat_lt (length bs) n then None else Some (take n bs, drop n bs)

abbrev pub take_text : List ℕ → Taken (List ℕ)
take_text bs = and_then (take_number bs) take_front

-- A PART that may be left out
abbrev pub take_part : {A : Type 0} → (List ℕ → Taken A) → List ℕ → Taken (Option A)
take_part read [] = None
take_part read (b ∷ bs) = if b == 0 then Some (None, bs) else map_taken Some (read bs)

-- A DATE-TIME
abbrev pub take_date : List ℕ → Taken Date
take_date bs =
    and_then (take_byte bs) (λ month cs. and_then (take_byte cs) (λ day ds.
    map_taken (λ year. record { year = year; month = month; day = day }) (take_number ds)))

abbrev pub take_time : List ℕ → Taken Time
take_time bs =
    and_then (take_byte bs) (λ hour cs. and_then (take_byte cs) (λ minute ds.
    and_then (take_part take_byte ds) (λ second es.
    map_taken (λ nano. record { hour = hour; minute = minute; second = second; nanosecond = nano })
    (take_part take_number es))))

abbrev pub offset_of : ℕ → ℕ → Offset
offset_of way n = if way == 1 then Custom (pos n) else Custom (negsuc n)

abbrev pub take_offset : List ℕ → Taken Offset
take_offset [] = None
take_offset (way ∷ bs) = if way == 0 then Some (Z, bs) else map_taken (offset_of way) (take_number bs)

abbrev pub take_datetime : List ℕ → Taken Datetime
take_datetime bs =
    and_then (take_part take_date bs) (λ date cs. and_then (take_part take_time cs) (λ time ds.
    map_taken (λ offset. record { date = date; time = time; offset = offset })
    (take_part take_offset ds)))

-- SOME ITEMS AND SOME MEMBERS, by what reads a value
abbrev pub take_items : (List ℕ → Taken Data) → ℕ → List ℕ → Taken Items
take_items read zero bs = Some (no_items, bs)
take_items read (suc n) bs =
    and_then (read bs) (λ d cs. map_taken (item d) (take_items read n cs))

abbrev pub take_members : (List ℕ → Taken Data) → ℕ → List ℕ → Taken Members
take_members read zero bs = Some (no_members, bs)
take_members read (suc n) bs =
    and_then (take_text bs) (λ k cs. and_then (read cs) (λ d ds.
    map_taken (member k d) (take_members read n ds)))

-- what stands after a tag
abbrev pub take_tagged : (List ℕ → Taken Data) → ℕ → List ℕ → Taken Data
take_tagged read tag bs =
    if tag == 1 then map_taken string (take_text bs)
    else if tag == 2 then map_taken (λ n. integer (pos n)) (take_number bs)
    else if tag == 3 then map_taken (λ n. integer (negsuc n)) (take_number bs)
    else if tag == 4 then Some (boolean false, bs)
    else if tag == 5 then Some (boolean true, bs)
    else if tag == 6 then map_taken datetime (take_datetime bs)
    else if tag == 7 then map_taken array (and_then (take_number bs) (take_items read))
    else if tag == 8 then map_taken table (and_then (take_number bs) (take_members read))
    else None

-- A VALUE that nests at most this deep
abbrev pub take_value : ℕ → List ℕ → Taken Data
take_value zero bs = None
take_value (suc deep) [] = None
take_value (suc deep) (tag ∷ bs) = take_tagged (take_value deep) tag bs

-- nothing stands after it
abbrev pub whole : Taken Data → Option Data
whole (Some (d, [])) = Some d
whole _ = None

-- THE VALUE that the bytes hold, if they hold one and no more
abbrev pub decoded : List ℕ → Option Data
decoded bs = whole (take_value (suc (length bs)) bs)
