use Rattle.std.proofs.Common.{rules, ◌++◌, ◌∷◌, [], flat_map, refl, arith}
use Rattle.std.proofs.Output.{has_written_append}
use Rattle.std.proofs.lemmas.Grind.{common_steps, put_three}
use Rattle.std.specs.Char.{encode_utf8}
use Rattle.manifest_schema.specs.PathTexts.{quoted_byte}
use Rattle.manifest_fault.proofs.path_text.write_quoted.Goals as goal

pub loop-c-init : goal.loop-c-init
loop-c-init g c = λ plain. ([], search rules, search rules)

pub loop-c-preserved : goal.loop-c-preserved
loop-c-preserved g c = λ plain.
    let so_far = c.loop-c.invariant plain in (
      so_far.0 ++ flat_map quoted_byte (encode_utf8 c.in-Some.c),
      has_written_append _ _ _ _ _ _ so_far.1 (search rules),
      grind (arith, common_steps),
    )

pub returns : goal.returns
unfolding encode_utf8
returns g c = λ plain ok.
    let opened = c.in_ok-write_char.ensures.writes plain refl in
    let so_far = c.loop-c.invariant opened.plain in
    put_three _ _ _ _ _ (34 ∷ []) so_far.0 (34 ∷ []) _ opened so_far.1 (search rules) (grind (arith, common_steps))
