-- The text of a date-time is a word, also where no TOML text writes it.
use Rattle.std.proofs.Common.{◌≡◌, ℕ, zero, suc, ◌/◌, true, false, nat_lt, pos, negsuc, List, [], ◌++◌, Option, Some, None, refl, arith, append-nil}
use Rattle.std.proofs.lemmas.Bool.Decides.{nat_tests}
use Rattle.std.proofs.lemmas.List.Folds.{list_all-append}
use Rattle.std.specs.Fmt.{digits_onto, digits, decimal}
use Rattle.std.specs.List.{list_all}
use Rattle.toml_datetime.specs.declared.datetime.Date.{Date}
use Rattle.toml_datetime.specs.declared.datetime.Time.{Time}
use Rattle.toml_datetime.specs.declared.datetime.Offset.{Offset}
use Rattle.toml_datetime.specs.declared.datetime.Offset.TheVariants.{Z, Custom}
use Rattle.toml_datetime.specs.declared.datetime.Datetime.{Datetime}
use Rattle.toml_datetime.specs.Text.{two_wide, date_text, nanosecond_text, seconds_text, time_text, offset_text, part_text, delim_text, datetime_text}
use Rattle.toml_datetime.specs.Valid.{is_valid, is_valid_time}
use Rattle.toml_writer.proofs.Scalars.{IsWord-datetime}
use Rattle.toml_parser.specs.Lexical.{is_word}

-- each byte can stand in a word
abbrev AllWord : List ℕ → Type 0
AllWord text = list_all is_word text ≡ true

-- digits can stand in a word
onto_words : (k n : ℕ) (acc : List ℕ) → AllWord acc → AllWord (digits_onto k 10 false n acc)
onto_words zero n acc h = h
onto_words (suc k) n acc h = grind (arith, nat_tests, onto_words k (n / 10))

-- so are those of a number
decimal_words : (n : ℕ) → AllWord (decimal n)
unfolding digits
decimal_words n = onto_words 64 n [] refl

-- so are two digits
two_words : (n : ℕ) → AllWord (two_wide n)
unfolding two_wide
two_words n = grind (arith, nat_tests, decimal_words n)

-- a time of day has such a fraction, and its text is a word
fraction_words : (n : ℕ) → nat_lt n 1000000000 ≡ true → AllWord (nanosecond_text n)
unfolding is_valid is_valid_time datetime_text time_text two_wide
fraction_words n small =
    let time : Time = record { hour = 0; minute = 0; second = Some 0; nanosecond = Some n } in
    let day : Datetime = record { date = None; time = Some time; offset = None } in
    let all : AllWord (nanosecond_text n ++ []) = (IsWord-datetime day (rw small refl)).all in
    rw append-nil at all

-- so are the digits after a point
nanosecond_words : (n : ℕ) → AllWord (nanosecond_text n)
unfolding nanosecond_text
nanosecond_words n = grind (arith, nat_tests, fraction_words n, decimal_words n)

-- so are seconds
seconds_words : (s n : Option ℕ) → AllWord (seconds_text s n)
seconds_words None None = refl
seconds_words (Some s) None = two_words s
seconds_words None (Some n) = simp (list_all-append, two_words, nanosecond_words)
seconds_words (Some s) (Some n) = simp (list_all-append, two_words, nanosecond_words)

-- so is a date, where there is one
date_words : (d : Option Date) → AllWord (part_text date_text d)
unfolding date_text
date_words None = refl
date_words (Some d) = simp (list_all-append, two_words)

-- so is a time of day
time_words : (t : Option Time) → AllWord (part_text time_text t)
unfolding time_text
time_words None = refl
time_words (Some t) = simp (list_all-append, two_words, seconds_words)

-- so is an offset
offset_words : (o : Option Offset) → AllWord (part_text offset_text o)
unfolding offset_text
offset_words None = refl
offset_words (Some Z) = refl
offset_words (Some (Custom (pos n))) = simp (list_all-append, two_words)
offset_words (Some (Custom (negsuc n))) = simp (list_all-append, two_words)

-- so is what stands between a date and a time
delim_words : (d : Option Date) (t : Option Time) → AllWord (delim_text d t)
delim_words d t = grind (arith, nat_tests)

-- so is a date-time
pub datetime_words : (dt : Datetime) → AllWord (datetime_text dt)
unfolding datetime_text
datetime_words dt = simp (list_all-append, date_words, delim_words, time_words, offset_words)
