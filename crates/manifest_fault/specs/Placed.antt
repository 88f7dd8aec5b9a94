-- What is found in a value, each finding at its path, whatever a finding is (C): as a list, and as a tree.
use Rattle.manifest_schema.specs.Prelude.{Text, Path, Step, key}
use Rattle.std.specs.Prelude.{List, [], ◌∷◌, ◌++◌, Option, Some, None, map, flat_map}
use Rattle.std.specs.Borrow.{Bor}
use Rattle.manifest_fault.specs.Faults.{step_of, path_of}
use Rattle.manifest_fault.specs.declared.fault.KeyPath.{KeyPath}
use Rattle.manifest_fault.specs.declared.findings.FindingNode.{FindingNode, fold-FindingNode}
use Rattle.manifest_fault.specs.declared.findings.FindingNode.TheOpen.{FindingNode-F}
use Rattle.manifest_fault.specs.declared.findings.Findings.{Findings}

-- AS A LIST
-- this at the value itself, alone
abbrev pub placed_here : {C : Type 0} → C → List (Path × C)
placed_here c = ([], c) ∷ []

-- what is found in the value that a step leads to
abbrev pub placed_within : {C : Type 0} → Step → List (Path × C) → List (Path × C)
placed_within s [] = []
placed_within s (f ∷ fs) = (s ∷ f.0, f.1) ∷ placed_within s fs

-- what is found in the value under a key
abbrev pub placed_under : {C : Type 0} → Text → List (Path × C) → List (Path × C)
placed_under name fs = placed_within (key name) fs

-- what is found in the value at this path
abbrev pub placed_below : {C : Type 0} → Path → List (Path × C) → List (Path × C)
placed_below p fs = map (λ f. (p ++ f.0, f.1)) fs

-- the first of a list, where there is one
abbrev pub first_of : {A : Type 0} → List A → Option A
first_of [] = None
first_of (x ∷ xs) = Some x

-- a finding of the code with its path
abbrev pub place_of : {C : Type 0} → KeyPath × Bor C → Path × C
place_of f = (path_of f.0, f.1.now)

-- AS A TREE
-- one node, with what is found by each node inside
abbrev pub node_step : {C : Type 0} → FindingNode-F C (List (Path × C)) → List (Path × C)
node_step (FindingNode-F.Here c) = placed_here c
node_step (FindingNode-F.Within s inside) =
    placed_within (step_of s) (flat_map (λ fs. fs) inside.items)

-- what a node says
abbrev pub placed_in : {C : Type 0} → FindingNode C → List (Path × C)
placed_in {C} = fold-FindingNode C (List (Path × C)) node_step

-- what some nodes say, in their order
abbrev pub placed_among : {C : Type 0} → List (FindingNode C) → List (Path × C)
placed_among nodes = flat_map placed_in nodes

-- ALL THAT IS FOUND, in its order
abbrev pub placed : {C : Type 0} → Findings C → List (Path × C)
placed fs = placed_among fs.nodes.items
