-- What the code was answered, as the definitions see it.
use Rattle.manifest_schema.specs.Prelude.{BTreeSet, Global, error_kind, Text}
use Rattle.std.specs.Prelude.{List, map, String, string_bytes, Vec, Result, Ok, Err}
use Rattle.std.specs.declared.io.Error.{Error}
use Rattle.manifest_completion.specs.Listings.{Answer, names, fault}

-- the names of a set
abbrev pub set_names : BTreeSet (String Global) → List Text
set_names s = map string_bytes s.keys

abbrev pub answer_of : Result (BTreeSet (String Global)) Error → Answer
answer_of (Ok s) = names (set_names s)
answer_of (Err e) = fault (error_kind e)

abbrev pub answers_of : Vec (Result (BTreeSet (String Global)) Error) Global → List Answer
answers_of v = map answer_of v.items
