-- Where that stands in a text which is found in its document.
use Rattle.std.specs.Prelude.{List, map}
use Rattle.std.specs.List.{AllZip}
use Rattle.manifest_schema.specs.Findings.{Finding, fault, ignored, unused}
use Rattle.manifest_fault.specs.Placed.{placed_below}
use Rattle.manifest_fault.specs.Found.{finding_at}
use Rattle.manifest_fault.specs.declared.schema_findings.Finding.{Finding as CodeFinding}
use Rattle.manifest_places.specs.Paths.{Path}
use Rattle.manifest_places.specs.Located.{IsLocated}
use Rattle.manifest_places.specs.declared.finding.Places.{Places}
use Rattle.manifest_places.specs.declared.located.Located.{Located}

-- what belongs to each of these paths stands there, one for each of them, in their order
abbrev pub AreLocated : Places → List Path → List Located → Type 0
AreLocated places ps ls = AllZip (IsLocated places) ps ls

-- the paths at which things are looked for, each by the path at which it is found and by what it is
abbrev pub paths_by : {C : Type 0} → (Path → C → Path) → List (Path × C) → List Path
paths_by leads fs = map (λ f. leads f.0 f.1) fs

-- so of what is found in the value at a path
abbrev pub paths_below : {C : Type 0} → (Path → C → Path) → Path → List (Path × C) → List Path
paths_below leads p fs = paths_by leads (placed_below p fs)

-- the path at which a finding of the schema stands
abbrev pub finding_path : Finding → Path
finding_path (fault p c words) = p
finding_path (ignored p c words) = p
finding_path (unused p) = p

-- and each of several
abbrev pub finding_paths : List Finding → List Path
finding_paths fs = map finding_path fs

-- that of a finding of the code in the value at a path
abbrev pub path_to_finding : Path → CodeFinding → Path
path_to_finding p f = finding_path (finding_at p f)

-- whatever is found at a path is looked for at this very path
abbrev pub path_itself : {C : Type 0} → Path → C → Path
path_itself p c = p
