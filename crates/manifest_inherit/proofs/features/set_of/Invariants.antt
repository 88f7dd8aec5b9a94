use Rattle.std.proofs.Common.{map, take, string_bytes}
use Rattle.manifest_completion.specs.Index.{paths_in, SamePaths}
use Rattle.manifest_inherit.proofs.features.set_of.Given as goal

-- the set has the features so far
abbrev pub invariant-loop-feature : goal.invariant-loop-feature
invariant-loop-feature l = SamePaths (paths_in l.there) (map string_bytes (take l.feature-index l.features))
