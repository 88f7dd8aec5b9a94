use Rattle.std.proofs.Common.{◌≡◌, ◌++◌, map, drop, string_bytes}
use Rattle.manifest_inherit.specs.ForProofs.{borrowed_texts}
use Rattle.manifest_inherit.proofs.features.append.Given as goal

-- the features so far, with the rest, are those that there were, with all
abbrev pub invariant-loop-feature : goal.invariant-loop-feature
invariant-loop-feature l =
    map string_bytes l.features.items ++ borrowed_texts (drop l.feature-index l.new)
    ≡ map string_bytes l.initial.features.items ++ borrowed_texts l.new
