-- What the code finds in a value, as the definitions see it, and what is found row by row.
use Rattle.manifest_schema.specs.Prelude.{fault, ignored, unused, Text, Path, key, Cause as SchemaCause}
use Rattle.manifest_schema.specs.Findings.{Finding as PathFinding}
use Rattle.manifest_schema.specs.OneFault.{fault_here}
use Rattle.std.specs.Prelude.{◌≡◌, List, [], ◌∷◌, ◌++◌, map, string_bytes}
use Rattle.std.specs.Borrow.{Bor}
use Rattle.manifest_fault.specs.Faults.{path_of, cause_of}
use Rattle.manifest_fault.specs.declared.fault.SchemaFault.{SchemaFault}
use Rattle.manifest_fault.specs.declared.fault.ReadFault.{ReadFault}
use Rattle.manifest_fault.specs.declared.fault.ReadFault.TheVariants.{Schema, Memory}
use Rattle.manifest_fault.specs.Placed.{placed_in, placed_among, placed}
use Rattle.manifest_fault.specs.declared.findings.FindingNode.{FindingNode}
use Rattle.manifest_fault.specs.declared.findings.Findings.{Findings}
use Rattle.manifest_fault.specs.declared.schema_findings.Finding.{Finding}
use Rattle.manifest_fault.specs.declared.schema_findings.Finding.TheVariants.{Fault, Ignored, Unused}

-- the words of a choice
abbrev pub choices_of : Bor (List (Bor Text)) → List Text
choices_of words = map (λ (w : Bor Text). w.now) words.now

-- a fault, by its path and its cause
abbrev pub fault_of : SchemaFault → Path × SchemaCause
fault_of f = (path_of f.path, cause_of f.cause)

-- a finding at its path, by its cause and the words of a choice, or by the key that stands there
abbrev pub finding_at : Path → Finding → PathFinding
finding_at p (Fault c words) = fault p (cause_of c) (choices_of words)
finding_at p (Ignored c words) = ignored p (cause_of c) (choices_of words)
finding_at p (Unused k) = unused (p ++ key (string_bytes k) ∷ [])

abbrev pub findings_of : List (Path × Finding) → List PathFinding
findings_of fs = map (λ f. finding_at f.0 f.1) fs

-- what a node says, and some nodes in their order
abbrev pub found_in : FindingNode Finding → List PathFinding
found_in n = findings_of (placed_in n)

abbrev pub found_among : List (FindingNode Finding) → List PathFinding
found_among nodes = findings_of (placed_among nodes)

-- ALL THAT IS FOUND, in its order
abbrev pub found : Findings Finding → List PathFinding
found fs = findings_of (placed fs)

-- this list is what was found
abbrev pub Finds : List PathFinding → Findings Finding → Type 0
Finds all fs = found fs ≡ all

-- the fault with which a value itself is refused is all that is found
abbrev pub IsFoundHere : List Text → ReadFault → Findings Finding → Type 0
IsFoundHere words (Schema f) fs = found fs ≡ fault_here words (cause_of f.cause)
IsFoundHere words (Memory e) fs = ⊥
