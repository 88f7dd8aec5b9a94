use Rattle.std.proofs.Common.{rules, arith, ◌≡◌, Some, None, option_map, ℕ, zero, suc, ◌+◌, ◌-◌, ◌<◌, ◌≤◌, length, true, false, List, [], ◌∷◌, refl, sym, ap, ◌∙◌}
use Rattle.std.specs.Prelude.{unwrap_or}
use Rattle.manifest_nesting.specs.declared.nesting.Nesting.{Nesting}
use Rattle.manifest_nesting.specs.Nesting.{turn, scan}
use Rattle.manifest_nesting.proofs.nesting.nests_too_deep.Goals as goal

-- nothing is left
scan_empty : (k : ℕ) (n : Nesting) (text : List ℕ) → length text ≡ 0 → scan k n text ≡ false
unfolding scan
scan_empty zero n text e = refl
scan_empty (suc k) n [] e = refl
scan_empty (suc k) n (x ∷ text) e = absurd (omega (arith, e))

-- one turn of a scan
scan_turn : (k i : ℕ) (n : Nesting) (text : List ℕ) → i < k → 0 < length text
    → scan (k - i) n text ≡ unwrap_or (option_map (λ p. scan (k - (i + 1)) p.0 p.1) (turn n text)) true
unfolding scan
scan_turn k i n [] h e = absurd (omega (arith, e))
scan_turn k i n (x ∷ text) h e = let one_more : k - i ≡ suc (k - (i + 1)) = omega arith in rw one_more refl

pub returns-then-is_empty : goal.returns-then-is_empty
returns-then-is_empty c =
    sym (scan_empty (length c.args.text.now - c.loop-i.i) c.loop-i.nesting c.loop-i.rest.now (search rules))
    ∙ c.loop-i.invariant

pub returns-in-None : goal.returns-in-None
returns-in-None c =
    let k = length c.args.text.now in
    let ends : turn c.loop-i.nesting c.loop-i.rest.now ≡ None = sym c.turn.ensures
    ∙ ap (option_map (λ r. (c.turn.new.nesting, r.now))) c.in-None.is in
    let turned = scan_turn k c.loop-i.i c.loop-i.nesting c.loop-i.rest.now (search rules) (grind arith)
    ∙ ap (λ o. unwrap_or (option_map (λ p. scan (k - (c.loop-i.i + 1)) p.0 p.1) o) true) ends in
    sym turned ∙ c.loop-i.invariant

pub loop-i-preserved : goal.loop-i-preserved
loop-i-preserved c =
    let k = length c.args.text.now in
    let goes_on : turn c.loop-i.nesting c.loop-i.rest.now ≡ Some (c.turn.new.nesting, c.in-Some.left.now) =
    sym c.turn.ensures ∙ ap (option_map (λ r. (c.turn.new.nesting, r.now))) c.in-Some.is in
    let turned = scan_turn k c.loop-i.i c.loop-i.nesting c.loop-i.rest.now (search rules) (grind arith)
    ∙ ap (λ o. unwrap_or (option_map (λ p. scan (k - (c.loop-i.i + 1)) p.0 p.1) o) true) goes_on in
    sym turned ∙ c.loop-i.invariant

-- no turn is left
scan_out : (k i : ℕ) (n : Nesting) (text : List ℕ) → k ≤ i → scan (k - i) n text ≡ false
unfolding scan
scan_out k i n text h = let none_left : k - i ≡ zero = omega arith in rw none_left refl

pub returns : goal.returns
returns c =
    sym (scan_out (length c.args.text.now) c.loop-i.i c.loop-i.nesting c.loop-i.rest.now (search rules))
    ∙ c.loop-i.invariant
