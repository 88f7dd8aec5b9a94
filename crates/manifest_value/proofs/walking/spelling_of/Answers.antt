use Rattle.std.proofs.Common.{option_copied}
use Rattle.manifest_value.proofs.WalkLemmas.{among_first, among_second, among_neither, among_none}
use Rattle.manifest_value.proofs.walking.spelling_of.Goals as goal

pub returns-then-eq : goal.returns-then-eq
returns-then-eq c = among_first c.args.row.now.first.now (option_copied c.args.row.now.second) c.args.key.now
    (rw (← c.eq.ensures) c.if-eq.true)

pub returns-then-eq-2 : goal.returns-then-eq-2
returns-then-eq-2 c = rw c.in-Some.is (among_second c.args.row.now.first.now c.in-Some.word.now c.args.key.now
    (rw (← c.eq.ensures) c.if-eq.false) (rw (← c.eq-in-Some.ensures) c.if-eq-2.true))

pub returns-else-eq-2 : goal.returns-else-eq-2
returns-else-eq-2 c = rw c.in-Some.is (among_neither c.args.row.now.first.now c.in-Some.word.now c.args.key.now
    (rw (← c.eq.ensures) c.if-eq.false) (rw (← c.eq-in-Some.ensures) c.if-eq-2.false))

pub returns-in-None : goal.returns-in-None
returns-in-None c = rw c.in-None.is (among_none c.args.row.now.first.now c.args.key.now
    (rw (← c.eq.ensures) c.if-eq.false))
