use Rattle.std.proofs.Common.{◌≡◌, ◌++◌, List}
use Rattle.std.specs.Slice.Iter.{iter_rest}
use Rattle.manifest_completion.specs.declared.discovered.FoundTarget.{FoundTarget}
use Rattle.manifest_completion.specs.Steps.{all_discovered_content}
use Rattle.manifest_completion.specs.Index.{Indexes}
use Rattle.manifest_completion.proofs.index.IndexedTargets.new.Given as goal

-- the finds that it has gone over are indexed
abbrev pub invariant-loop-target_found : goal.invariant-loop-target_found
invariant-loop-target_found l = (done : List FoundTarget) × (l.discovered ≡ iter_rest l.target_found-iterator.iter
    ++ done) × Indexes l.paths (all_discovered_content done)
