use Rattle.std.proofs.Common.{◌≡◌, ◌<◌, ◌+◌, ◌-◌, true, false, cond, length, get_or, take, sym, ap, ◌∙◌, arith, eqb-true, eq-eqb}
use Rattle.toml_parser.specs.Lexical.{is_ws}
use Rattle.manifest_places.specs.Keys.{last_solid}
use Rattle.manifest_places.proofs.KeyLemmas.{solid_before}
use Rattle.manifest_places.proofs.keys.is_after_dot.Goals as goal

pub returns-then-not-is_ws : goal.returns-then-not-is_ws
returns-then-not-is_ws c =
    let text = c.args.text.now in
    let i = c.loop-end.end - 1 in
    let byte = get_or c.as_bytes-text_bytes.result.now i 0 in
    let lt : i < length text = omega arith in
    let more : c.loop-end.end ≡ i + 1 = omega arith in
    let same : byte ≡ get_or text i 0 = ap (λ t. get_or t i 0) c.as_bytes-text_bytes.ensures.value in
    let plain : is_ws (get_or text i 0) ≡ false = ap is_ws (sym same) ∙ sym c.is_ws.ensures ∙ c.if-not-is_ws.true in
    let solid = solid_before text i 0 lt ∙ ap (λ b. cond b (last_solid 0 (take i text)) (get_or text i 0)) plain in
    let is : last_solid 0 (take c.args.offset text) ≡ byte = c.loop-end.invariant.1
    ∙ ap (λ n. last_solid 0 (take n text)) more ∙ solid ∙ sym same in
    ((λ t. is ∙ eqb-true byte 46 t), (λ e. eq-eqb byte 46 (sym is ∙ e)))

pub loop-end-preserved : goal.loop-end-preserved
loop-end-preserved c =
    let text = c.args.text.now in
    let i = c.loop-end.end - 1 in
    let byte = get_or c.as_bytes-text_bytes.result.now i 0 in
    let lt : i < length text = omega arith in
    let more : c.loop-end.end ≡ i + 1 = omega arith in
    let same : byte ≡ get_or text i 0 = ap (λ t. get_or t i 0) c.as_bytes-text_bytes.ensures.value in
    let blank : is_ws (get_or text i 0) ≡ true = ap is_ws (sym same) ∙ sym c.is_ws.ensures ∙ c.if-not-is_ws.false in
    let solid = solid_before text i 0 lt ∙ ap (λ b. cond b (last_solid 0 (take i text)) (get_or text i 0)) blank in
    (omega arith, c.loop-end.invariant.1 ∙ ap (λ n. last_solid 0 (take n text)) more ∙ solid)
