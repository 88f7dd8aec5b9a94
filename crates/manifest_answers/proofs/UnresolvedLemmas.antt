-- The paths at which refusals are looked for are those of the refusals.
use Rattle.manifest_schema.specs.Prelude.{Path}
use Rattle.std.proofs.Common.{◌≡◌, List, [], ◌∷◌, map, refl, ap}
use Rattle.manifest_fault.specs.Placed.{placed_among}
use Rattle.manifest_fault.specs.declared.findings.FindingNode.{FindingNode}
use Rattle.manifest_inherit.specs.Answers.{refusal_of}
use Rattle.manifest_inherit.specs.declared.error.Refusal.{Refusal as Unresolved}
use Rattle.manifest_places.specs.Findings.{paths_by, path_itself}
use Rattle.manifest_answers.specs.Unresolved.{asked_for, asked_for_by, own_paths, asked_paths, refused_among}

own_paths_by : (fs : List (Path × Unresolved)) → paths_by path_itself fs ≡ own_paths
    (map (λ f. (f.0, refusal_of f.1)) fs)
own_paths_by [] = refl
own_paths_by ((p, r) ∷ fs) = ap (λ ps. p ∷ ps) (own_paths_by fs)

asked_paths_by : (fs : List (Path × Unresolved)) → paths_by asked_for_by fs ≡ asked_paths
    (map (λ f. (f.0, refusal_of f.1)) fs)
asked_paths_by [] = refl
asked_paths_by ((p, r) ∷ fs) = ap (λ ps. asked_for p (refusal_of r) ∷ ps) (asked_paths_by fs)

pub own_paths_of : (nodes : List (FindingNode Unresolved)) → paths_by path_itself (placed_among nodes) ≡ own_paths
    (refused_among nodes)
own_paths_of nodes = own_paths_by (placed_among nodes)

pub asked_paths_of : (nodes : List (FindingNode Unresolved)) → paths_by asked_for_by (placed_among nodes) ≡ asked_paths
    (refused_among nodes)
asked_paths_of nodes = asked_paths_by (placed_among nodes)
