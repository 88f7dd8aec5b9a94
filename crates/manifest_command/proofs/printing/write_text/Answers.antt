use Rattle.std.proofs.Common.{◌≡◌, ℕ, ◌-◌, List, [], ◌++◌, rules, length, take, drop, sym, ap, ◌∙◌, subst, append_assoc, append-nil, take-append-drop, drop_of_length-le}
use Rattle.std.proofs.lemmas.List.{take_rest}
use Rattle.std.specs.Io.KnownBytes.{Appends}
use Rattle.std.proofs.KnownBytes.{Appends-trans}
use Rattle.manifest_command.proofs.Printed.{appends_kept}
use Rattle.manifest_command.proofs.printing.write_text.Goals as goal
use Rattle.manifest_command.proofs.printing.write_text.Goals.{in-Ok, in-Err+else-ne}

moves_front : (all done rest : List ℕ) (n : ℕ) → all ≡ done ++ rest → all ≡ (done ++ take n rest)
    ++ take (length rest - n) (drop n rest)
moves_front all done rest n e =
    e ∙ ap (λ l. done ++ l) (sym (take-append-drop n rest)) ∙ sym (append_assoc done (take n rest) (drop n rest))
    ∙ ap (λ l. (done ++ take n rest) ++ l) (sym (take_rest rest n))

pub loop-preserved : goal.loop-preserved
loop-preserved g c =
    let (done, split, appended) = c.loop.invariant in
    let rest = c.loop.rest.now in
    elim c.match-write.branch [
      | in-Ok w ↦ rw w.rest-is (
        done ++ take w.in-Ok.n rest,
        moves_front _ done rest w.in-Ok.n split,
        Appends-trans _ _
            _ _ _ appended w.in-Ok.ensures.bytes,
      )
      | in-Err+else-ne w ↦ rw w.rest-is (done, split, appends_kept _ _ _ _ appended w.in-Err.ensures.bytes)
    ]

pub returns-then-is_empty : goal.returns-then-is_empty
returns-then-is_empty g c =
    let (done, split, appended) = c.loop.invariant in
    let rest = c.loop.rest.now in
    let empty : rest ≡ [] = drop_of_length-le rest {i = 0} (search rules) in
    record {
      ok = subst (Appends _ _) (sym (split ∙ ap (λ l. done ++ l) empty ∙ append-nil done)) appended;
      refused =
          tt;
    }
