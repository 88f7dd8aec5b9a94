-- The value of what is found in the value that a step leads to, and the paths of what is found.
use Rattle.manifest_schema.specs.Prelude.{Data, integer}
use Rattle.std.proofs.Common.{◌≡◌, List, [], ◌∷◌, pos, Vec, Global, refl, ap, rules}
use Rattle.manifest_fault.specs.Faults.{step_of}
use Rattle.manifest_fault.specs.Placed.{placed_among}
use Rattle.manifest_fault.specs.Found.{findings_of, found_among}
use Rattle.manifest_fault.specs.declared.fault.Step.{Step}
use Rattle.manifest_fault.specs.declared.findings.FindingNode.{FindingNode, Within, the_lemmas}
use Rattle.manifest_fault.specs.declared.schema_findings.Finding.{Finding}
use Rattle.manifest_places.specs.Paths.{Path}
use Rattle.manifest_places.specs.Findings.{paths_by, finding_paths, path_to_finding}
use Rattle.manifest_answers.specs.Inspected.{triple_data, step_data, node_data, nodes_data}

pub node_within : {C : Type 0} (data_of : C → Data) (s : Step) (inside : Vec (FindingNode C) Global)
    → node_data data_of (Within s inside)
    ≡ triple_data (integer (pos 3)) (step_data (step_of s)) (nodes_data data_of inside.items)
node_within data_of s inside = search (rules, the_lemmas)

-- the findings of the schema are looked for at their paths
paths_of_findings : (fs : List (Path × Finding)) → paths_by path_to_finding fs ≡ finding_paths (findings_of fs)
paths_of_findings [] = refl
paths_of_findings ((p, f) ∷ fs) = ap (λ qs. path_to_finding p f ∷ qs) (paths_of_findings fs)

pub paths_to_findings : (nodes : List (FindingNode Finding)) → paths_by path_to_finding (placed_among nodes)
    ≡ finding_paths (found_among nodes)
paths_to_findings nodes = paths_of_findings (placed_among nodes)
