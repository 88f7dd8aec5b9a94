use Rattle.std.proofs.Common.{◌≡◌, ◌==◌, true, false, length, drop, sym, ap, ◌∙◌, arith}
use Rattle.std.proofs.lemmas.Bool.Decides.{nat_tests}
use Rattle.std.proofs.lemmas.Grind.{common_steps}
use Rattle.toml_parser.specs.Lexical.{first, skip_ws}
use Rattle.toml_parser.specs.Reading.{key_view}
use Rattle.toml_parser.specs.declared.error.ParseError.TheVariants.{OutOfMemory}
use Rattle.manifest_places.proofs.KeyLemmas.{no_key, no_sign, more_after, key_alone}
use Rattle.manifest_places.proofs.keys.key_before.Goals as goal

pub returns-then-first-ne61 : goal.returns-then-first-ne61
returns-then-first-ne61 c =
    let sign : (first c.in-Ok.rest.now == 61) ≡ false = grind (arith, nat_tests, common_steps) in
    sym (no_sign c.args.text.now c.in-Ok.rest.now (key_view c.in-Ok.key) c.in-Ok.ensures.value sign)

pub returns-then-is_empty : goal.returns-then-is_empty
returns-then-is_empty c =
    let sign : (first c.in-Ok.rest.now == 61) ≡ true = grind (arith, common_steps) in
    let same = ap (λ t. length t == 0) (c.skip_ws.ensures.rest ∙ ap skip_ws c.skip.ensures.rest) in
    let none : (length (skip_ws (drop 1 c.in-Ok.rest.now)) == 0) ≡ true = sym same ∙ sym c.is_empty.ensures
    ∙ c.if-is_empty.true in
    sym (key_alone c.args.text.now c.in-Ok.rest.now (key_view c.in-Ok.key) c.in-Ok.ensures.value sign none)

pub returns-else-is_empty : goal.returns-else-is_empty
returns-else-is_empty c =
    let sign : (first c.in-Ok.rest.now == 61) ≡ true = grind (arith, common_steps) in
    let same = ap (λ t. length t == 0) (c.skip_ws.ensures.rest ∙ ap skip_ws c.skip.ensures.rest) in
    let more : (length (skip_ws (drop 1 c.in-Ok.rest.now)) == 0) ≡ false = sym same ∙ sym c.is_empty.ensures
    ∙ c.if-is_empty.false in
    sym (more_after c.args.text.now c.in-Ok.rest.now (key_view c.in-Ok.key) c.in-Ok.ensures.value sign more)

pub returns-in-Err-At : goal.returns-in-Err-At
returns-in-Err-At c =
    let other : c.in-Err-At.field-0 ≡ OutOfMemory → ⊥ = λ memory. let is = c.in-Err-At.field-0-is in cc in
    sym (no_key c.args.text.now (c.in-Err-At.ensures.value other))
