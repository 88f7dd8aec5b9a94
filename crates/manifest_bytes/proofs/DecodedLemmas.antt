-- A value without floats is what its bytes hold.
use Rattle.manifest_schema.specs.Prelude.{and_parts, nat_tests, append-nil, Data, string, integer, float, boolean, datetime, array, table, Items, no_items, item, Members, no_members, member, items_depth, members_depth, plain, plain_items, plain_members}
use Rattle.std.proofs.Common.{◌≡◌, ℕ, zero, suc, ◌≤◌, ◌<◌, List, [], ◌++◌, length, length-append, true, false, pos, negsuc, Option, Some, None, refl, ap, append_assoc, arith}
use Rattle.std.proofs.lemmas.List.{take_at, drop_at}
use Rattle.std.specs.Prelude.{nat_lt}
use Rattle.toml_datetime.specs.declared.datetime.Date.{Date}
use Rattle.toml_datetime.specs.declared.datetime.Time.{Time}
use Rattle.toml_datetime.specs.declared.datetime.Offset.{Offset}
use Rattle.toml_datetime.specs.declared.datetime.Offset.TheVariants.{Z, Custom}
use Rattle.toml_datetime.specs.declared.datetime.Datetime.{Datetime}
use Rattle.toml.specs.Data.{depth}
use Rattle.manifest_bytes.specs.Numbers.{Taken, number_bytes, take_number}
use Rattle.manifest_bytes.specs.Encoded.{text_bytes, part_bytes, date_bytes, second_bytes, time_bytes, offset_bytes, datetime_bytes, item_count, member_count, encoded, items_bytes, members_bytes}
use Rattle.manifest_bytes.specs.Decoded.{take_byte, take_front, take_text, take_part, take_date, take_time, take_offset, take_datetime, take_items, take_members, take_value, whole}
use Rattle.manifest_bytes.specs.Laws.{EncodedIsDecoded}
use Rattle.manifest_bytes.proofs.NumberLemmas.{number_back}

-- TEXTS
front_back : (t rest : List ℕ) → take_front (length t) (t ++ rest) ≡ Some (t, rest)
front_back t rest =
    let fits : nat_lt (length (t ++ rest)) (length t) ≡ false = grind (arith, nat_tests, length-append t rest) in
    rw (fits, take_at t rest (length t) refl, drop_at t rest (length t) refl) refl

pub text_back : (t rest : List ℕ) → take_text (text_bytes t ++ rest) ≡ Some (t, rest)
text_back t rest = rw (
  append_assoc (number_bytes (length t)) t rest,
  number_back (length t) (t ++ rest),
  front_back t
      rest,
) refl

-- DATES
part_back : {A : Type 0} (take : List ℕ → Taken A) (bytes : A → List ℕ) → ((a : A) (rest : List ℕ)
    → take (bytes a ++ rest) ≡ Some (a, rest)) →
    (part : Option A) (rest : List ℕ) → take_part take (part_bytes bytes part ++ rest) ≡ Some (part, rest)
part_back take bytes back None rest = refl
part_back take bytes back (Some a) rest = rw (back a rest) refl

date_back : (d : Date) (rest : List ℕ) → take_date (date_bytes d ++ rest) ≡ Some (d, rest)
date_back d rest = rw (number_back d.year rest) refl

time_back : (t : Time) (rest : List ℕ) → take_time (time_bytes t ++ rest) ≡ Some (t, rest)
time_back t rest = rw (
  append_assoc (part_bytes second_bytes t.second) (part_bytes number_bytes t.nanosecond) rest,
  part_back take_byte second_bytes (λ s rest. refl) t.second (part_bytes number_bytes t.nanosecond ++ rest),
  part_back
      take_number number_bytes number_back t.nanosecond rest,
) refl

offset_back : (o : Offset) (rest : List ℕ) → take_offset (offset_bytes o ++ rest) ≡ Some (o, rest)
offset_back Z rest = refl
offset_back (Custom (pos n)) rest = rw (number_back n rest) refl
offset_back (Custom (negsuc n)) rest = rw (number_back n rest) refl

datetime_back : (t : Datetime) (rest : List ℕ) → take_datetime (datetime_bytes t ++ rest) ≡ Some (t, rest)
datetime_back t rest =
    let date = part_bytes date_bytes t.date in
    let time = part_bytes time_bytes t.time in
    let offset = part_bytes offset_bytes t.offset in
    rw (
      append_assoc date (time ++ offset) rest,
      append_assoc time offset rest,
      part_back take_date date_bytes date_back
          t.date (time ++ (offset ++ rest)),
      part_back take_time time_bytes time_back t.time (offset ++ rest),
      part_back
          take_offset offset_bytes offset_back t.offset rest,
    ) refl

-- VALUES
mutual
  pub value_back : (d : Data) (deep : ℕ) (rest : List ℕ) → plain d ≡ true → depth d < deep → take_value deep (encoded d
      ++ rest) ≡ Some (d, rest)
  value_back d zero rest p h = absurd (omega arith)
  value_back (string s) (suc deep) rest p h = rw (text_back s rest) refl
  value_back (integer (pos n)) (suc deep) rest p h = rw (number_back n rest) refl
  value_back (integer (negsuc n)) (suc deep) rest p h = rw (number_back n rest) refl
  value_back (boolean true) (suc deep) rest p h = refl
  value_back (boolean false) (suc deep) rest p h = refl
  value_back (datetime t) (suc deep) rest p h = rw (datetime_back t rest) refl
  value_back (float x) (suc deep) rest p h = cc
  value_back (array ds) (suc deep) rest p h =
      let n = item_count ds in
      rw (
        append_assoc (number_bytes n) (items_bytes ds) rest,
        number_back n (items_bytes ds ++ rest),
        items_back ds
            deep rest p (omega arith),
      ) refl
  value_back (table ms) (suc deep) rest p h =
      let n = member_count ms in
      rw (
        append_assoc (number_bytes n) (members_bytes ms) rest,
        number_back n (members_bytes ms ++ rest),
        members_back
            ms deep rest p (omega arith),
      ) refl

  items_back : (ds : Items) (deep : ℕ) (rest : List ℕ) → plain_items ds ≡ true → items_depth ds < deep
      → take_items (take_value deep) (item_count ds) (items_bytes ds ++ rest) ≡ Some (ds, rest)
  items_back no_items deep rest p h = refl
  items_back (item d ds) deep rest p h =
      let (one, more) = and_parts (plain d) (plain_items ds) p in
      rw (
        append_assoc (encoded d) (items_bytes ds) rest,
        value_back d deep (items_bytes ds ++ rest) one (omega arith),
        items_back ds deep rest more (omega arith),
      ) refl

  members_back : (ms : Members) (deep : ℕ) (rest : List ℕ) → plain_members ms ≡ true → members_depth ms < deep
      → take_members (take_value deep) (member_count ms) (members_bytes ms ++ rest) ≡ Some (ms, rest)
  members_back no_members deep rest p h = refl
  members_back (member k d ms) deep rest p h =
      let (one, more) = and_parts (plain d) (plain_members ms) p in
      rw (
        append_assoc (text_bytes k) (encoded d ++ members_bytes ms) rest,
        append_assoc (encoded d) (members_bytes ms)
            rest,
        text_back k (encoded d ++ (members_bytes ms ++ rest)),
        value_back d deep (members_bytes ms ++ rest) one
            (omega arith),
        members_back ms deep rest more (omega arith),
      ) refl

-- bytes are longer than what they hold is deep
mutual
  shallow : (d : Data) → depth d ≤ length (encoded d)
  shallow (array ds) = let inner = items_shallow ds in omega (
    arith,
    length-append (number_bytes (item_count ds))
        (items_bytes ds),
  )
  shallow (table ms) = let inner = members_shallow ms in omega (
    arith,
    length-append (number_bytes (member_count ms))
        (members_bytes ms),
  )
  shallow _ = omega arith

  items_shallow : (ds : Items) → items_depth ds ≤ length (items_bytes ds)
  items_shallow no_items = omega arith
  items_shallow (item d ds) = grind (arith, length-append, shallow d, items_shallow ds)

  members_shallow : (ms : Members) → members_depth ms ≤ length (members_bytes ms)
  members_shallow no_members = omega arith
  members_shallow (member k d ms) = grind (arith, length-append, shallow d, members_shallow ms)

pub encoded_is_decoded : EncodedIsDecoded
encoded_is_decoded d p =
    let deep = shallow d in
    let all = value_back d (suc (length (encoded d))) [] p (omega arith) in
    ap whole (rw append-nil at all)
