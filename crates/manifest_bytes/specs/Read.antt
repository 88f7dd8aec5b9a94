-- What a reader makes of bytes that begin with those of what it reads.
use Rattle.std.specs.Prelude.{◌≡◌, ℕ, ◌<◌, ◌≤◌, List, [], ◌∷◌, ◌++◌, length, Bool, true, false, if◌then◌else◌, ◌==◌, IfSome, from_bits, Option, Some, None, Result, Ok, Err}
use Rattle.std.specs.Float.{binary64}
use Rattle.toml.specs.Data.{Data, string, float, array, table}
use Rattle.manifest_bytes.specs.Numbers.{Taken, take_number}
use Rattle.manifest_bytes.specs.Decoded.{map_taken, take_tagged}
use Rattle.manifest_bytes.specs.declared.error.DecodeError.{DecodeError}
use Rattle.manifest_bytes.specs.declared.error.DecodeError.TheVariants.{TooDeep, Memory}
use Rattle.manifest_bytes.specs.declared.error.Unread.{Unread}
use Rattle.manifest_bytes.specs.declared.error.Unread.TheVariants.{Invalid, Refused}

-- THE NEXT BYTE is read where there is one
abbrev pub IsNext : List ℕ → Option ℕ → List ℕ → Type 0
IsNext old None new = old ≡ []
IsNext old (Some b) new = old ≡ b ∷ new

-- WHAT FITS is read where its bytes stand, and what was after them is left
abbrev pub Reads : {A : Type 0} → (A → Type 0) → (A → List ℕ) → List ℕ → Option A → List ℕ → Type 0
Reads {A} Fits bytes old result new =
    (x : A) (rest : List ℕ) → Fits x → old ≡ bytes x ++ rest → (result ≡ Some x) × (new ≡ rest)

-- a value that is no text, no array and no table
abbrev pub is_simple : Data → Bool
is_simple (string s) = false
is_simple (array ds) = false
is_simple (table ms) = false
is_simple _ = true

-- WHAT IS READ is what the bytes hold, by what takes it from a list; and no more is left than there was
abbrev pub IsTaken : {A : Type 0} → (List ℕ → Taken A) → List ℕ → Option A → List ℕ → Type 0
IsTaken take old result new =
    IfSome result (λ x. (take old ≡ Some (x, new)) × (length new ≤ length old))

-- what stands after a tag: a float by its bits, and else as `decoded` takes it
abbrev pub take_simple : ℕ → List ℕ → Taken Data
take_simple tag bs =
    if tag == 9 then map_taken (λ bits. float (from_bits binary64 bits)) (take_number bs)
    else take_tagged (λ cs. None) tag bs

-- WHY NOTHING is read of what nests `deep` deep: that is more than `deepest`, or memory runs out
abbrev pub Refuses : ℕ → ℕ → DecodeError → Type 0
Refuses deep deepest TooDeep = deepest < deep
Refuses deep deepest (Memory refused) = Unit {0}

-- WHAT NESTS `deep` DEEP is read, and nests at most `deepest` deep; or it is refused
abbrev pub ReadsWithin : {A : Type 0} →
    ℕ → ℕ → (A → Type 0) → Result (Option A) DecodeError → Type 0
ReadsWithin deep deepest Is (Ok (Some x)) = (deep ≤ deepest) × Is x
ReadsWithin deep deepest Is (Ok None) = ⊥
ReadsWithin deep deepest Is (Err error) = Refuses deep deepest error

-- so say the readers below `value_of_bytes`, which never find the bytes of such a thing invalid
abbrev pub RefusesRead : ℕ → ℕ → Unread → Type 0
RefusesRead deep deepest Invalid = ⊥
RefusesRead deep deepest (Refused error) = Refuses deep deepest error

abbrev pub ReadsTo : {A : Type 0} → ℕ → ℕ → (A → Type 0) → Result A Unread → Type 0
ReadsTo deep deepest Is (Ok x) = (deep ≤ deepest) × Is x
ReadsTo deep deepest Is (Err error) = RefusesRead deep deepest error

-- no more is left than there was; and what is too deep has more than `deepest` bytes
abbrev pub Shrinks : {A : Type 0} → ℕ → List ℕ → Result A Unread → List ℕ → Type 0
Shrinks deepest old (Ok x) new = length new ≤ length old
Shrinks deepest old (Err (Refused TooDeep)) new = deepest < length old
Shrinks deepest old (Err _) new = Unit {0}
