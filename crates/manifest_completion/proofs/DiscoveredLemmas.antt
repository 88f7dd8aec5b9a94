-- Lemmas on names, and on the finds of a folder.
use Rattle.manifest_schema.specs.Prelude.{Global, option_copied, Bor, AllZip, list_any, ends_with, nat_cmp, is_eq, slice_cmp, bytes_eq, is_eq-slice_cmp, Text}
use Rattle.std.proofs.Common.{◌≡◌, List, [], ◌∷◌, true, false, refl, ap, map, String, string_bytes, ◌||◌, codes, Option, Some, None, length, ◌≤◌, arith, nat_eq}
use Rattle.std.specs.Option.{MatchOption}
use Rattle.std.specs.Str.Pattern.{FindsTextSuffix, StripsSuffix}
use Rattle.std.proofs.lemmas.Str.Pattern.{ends_text}
use Rattle.manifest_schema.proofs.Forms.CopyLaws.{items_copied}
use Rattle.manifest_completion.specs.Finds.{stem}
use Rattle.manifest_completion.specs.Steps.{paired_discovered}

-- a set has a text where the texts of its keys do
pub has_text : {K : Type 0} (text : K → Text) (n : Text) (ks : List K)
    → list_any (λ k. is_eq (slice_cmp nat_cmp n (text k))) ks ≡ list_any (bytes_eq n) (map text ks)
has_text text n [] = refl
has_text text n (k ∷ ks) = rw (is_eq-slice_cmp n (text k)) (ap (λ b. bytes_eq n (text k) || b) (has_text text n ks))

-- copies of texts have the same bytes
pub bytes_of_clones : (ks ns : List (String Global)) → AllZip (λ s n. string_bytes n ≡ string_bytes s) ks ns
    → map string_bytes ns ≡ map string_bytes ks
bytes_of_clones = items_copied string_bytes (λ s n e. e)

-- no answers, no finds
pub paired_none : (d : Text) (ns : List Text) → paired_discovered d ns [] ≡ []
paired_none d [] = refl
paired_none d (n ∷ ns) = refl

abbrev ending : Text
ending = codes ".rs"

-- what `strip_suffix(".rs")` answers
pub stem_is : (n : Text) (r : Option (Bor Text)) → MatchOption r (FindsTextSuffix ending n None)
    (λ x. StripsSuffix (FindsTextSuffix ending) n x.now) → option_copied r ≡ stem n
stem_is n None h =
    let e : false ≡ ends_with nat_eq n ending = ends_text false ending n h in
    rw (← e) refl
stem_is n (Some x) (k, found, taken, whole) =
    let three : k ≡ 3 = found.0 in
    let small : 3 ≤ length n = omega (arith, three, whole) in
    let e : true ≡ ends_with nat_eq n ending = ends_text true ending n (
      3,
      (refl, rw three at found.1, found.2),
      small,
      found.2,
    ) in
    rw (← e) (ap Some (rw three at taken))
