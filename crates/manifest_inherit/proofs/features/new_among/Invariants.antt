use Rattle.std.proofs.Common.{◌≡◌, ◌++◌, map, drop, string_bytes}
use Rattle.manifest_completion.specs.Index.{paths_in}
use Rattle.manifest_inherit.specs.Resolved.{new_features}
use Rattle.manifest_inherit.specs.ForProofs.{borrowed_texts}
use Rattle.manifest_inherit.proofs.features.new_among.Given as goal

-- the new ones so far, with what is new of the rest, are what is new of all
abbrev pub invariant-loop-feature : goal.invariant-loop-feature
invariant-loop-feature l =
    borrowed_texts l.new.items ++ new_features (paths_in l.there) (map string_bytes (drop l.feature-index l.features))
    ≡ new_features (paths_in l.initial.there) (map string_bytes l.features)
