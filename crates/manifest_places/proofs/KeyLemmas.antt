-- What the key before a value is, from what its readers give; and the last byte that is no white space.
use Rattle.std.proofs.Common.{◌≡◌, ℕ, ◌+◌, ◌==◌, ◌<◌, true, false, cond, [], ◌∷◌, ◌++◌, length, take, drop, get_or, Some, None, refl, ap, ◌∙◌}
use Rattle.std.proofs.lemmas.List.{take_more}
use Rattle.toml_parser.specs.Lexical.{first, skip_ws, is_ws}
use Rattle.toml_parser.specs.Strings.{Key, key as read_key}
use Rattle.toml.specs.Parse.{key_equals}
use Rattle.manifest_places.specs.Paths.{Text}
use Rattle.manifest_places.specs.Keys.{key_before, last_solid}

pub no_key : (text : Text) → read_key text ≡ None → key_before text ≡ None
unfolding key_equals
no_key text none = rw none refl

pub no_sign : (text after : Text) (k : Key) → read_key text ≡ Some (k, after) → (first after == 61) ≡ false
    → key_before text ≡ None
unfolding key_equals
no_sign text after k read sign = rw (read, sign) refl

pub more_after : (text after : Text) (k : Key) → read_key text ≡ Some (k, after) → (first after == 61) ≡ true
    → (length (skip_ws (drop 1 after)) == 0) ≡ false → key_before text ≡ None
unfolding key_equals
more_after text after k read sign more = rw (read, sign, more) refl

pub key_alone : (text after : Text) (k : Key) → read_key text ≡ Some (k, after) → (first after == 61) ≡ true
    → (length (skip_ws (drop 1 after)) == 0) ≡ true → key_before text ≡ Some k
unfolding key_equals
key_alone text after k read sign none = rw (read, sign, none) refl

-- one more byte
solid_last : (b : ℕ) (xs : Text) (c : ℕ) → last_solid b (xs ++ c ∷ []) ≡ cond (is_ws c) (last_solid b xs) c
solid_last b [] c = refl
solid_last b (x ∷ xs) c = solid_last (cond (is_ws x) b x) xs c

pub solid_before : (text : Text) (i d : ℕ) → i < length text
    → last_solid 0 (take (i + 1) text) ≡ cond (is_ws (get_or text i d)) (last_solid 0 (take i text)) (get_or text i d)
solid_before text i d lt = ap (last_solid 0) (take_more text i d lt) ∙ solid_last 0 (take i text) (get_or text i d)
