-- The bytes of a string are UTF-8.
use Rattle.std.proofs.Common.{[], String, Global, string_bytes, IsUtf8, refl}
use Rattle.std.proofs.lemmas.Str.{IsUtf8-had}

pub string_is_utf8 : (s : String Global) → IsUtf8 (string_bytes s)
string_is_utf8 s = IsUtf8-had (string_bytes s) s.ok

pub nothing_is_utf8 : IsUtf8 []
nothing_is_utf8 = ([], (refl, refl))
