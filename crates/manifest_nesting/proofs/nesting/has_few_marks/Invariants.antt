use Rattle.std.proofs.Common.{◌≡◌, ◌+◌}
use Rattle.std.specs.Slice.Iter.{chunks_rest, chunks_size}
use Rattle.manifest_nesting.specs.Nesting.{marks}
use Rattle.manifest_nesting.proofs.nesting.has_few_marks.Given as goal

-- the marks so far, and those of the pieces that are to come
abbrev pub invariant-loop-piece : goal.invariant-loop-piece
invariant-loop-piece l =
    (goal.iterator-loop-piece).can_next l.piece-iterator × (goal.iterator-loop-piece).is_finite l.piece-iterator
    × (chunks_size l.piece-iterator ≡ 255)
    × (l.marks + marks (chunks_rest l.piece-iterator) ≡ marks l.text)
