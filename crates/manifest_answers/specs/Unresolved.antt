-- Why a member cannot inherit what it inherits, and where that stands in its text and in the root's, as a value and as its
-- tagged bytes.
use Rattle.manifest_schema.specs.Prelude.{Data, string, integer, Text, Path, key, bytes_eq, Workspace, Manifest}
use Rattle.std.specs.Prelude.{◌≡◌, ◌⊎◌, ℕ, pos, List, [], ◌∷◌, map, codes, if◌then◌else◌, Some, None}
use Rattle.manifest_bytes.specs.Encoded.{encoded}
use Rattle.manifest_fault.specs.Placed.{placed_among}
use Rattle.manifest_fault.specs.declared.findings.FindingNode.{FindingNode}
use Rattle.manifest_inherit.specs.Refused.{Refusal, PlacedRefusals, not_in_workspace, inherited_in_workspace, mixed_lints, tool_named_workspace, all_refusals}
use Rattle.manifest_inherit.specs.Answers.{refusal_of}
use Rattle.manifest_inherit.specs.declared.error.Refusal.{Refusal as Unresolved}
use Rattle.manifest_inherit.specs.declared.error.FinishError.TheVariants.{NoWorkspace}
use Rattle.manifest_places.specs.declared.located.Located.{Located}
use Rattle.manifest_answers.specs.declared.reading.Input.TheVariants.{Toml}
use Rattle.manifest_answers.specs.declared.refusal.Refusal.TheVariants.{Finishing}
use Rattle.manifest_answers.specs.Report.{refusal_status, refusal_name}
use Rattle.manifest_answers.specs.Read.{Are, RefusesToRead}
use Rattle.manifest_answers.specs.Inspected.{triple_data, nodes_data}
use Rattle.manifest_answers.specs.Placed.{places_data, AreFoundIn}
use Rattle.manifest_answers.specs.Made.{Refusals, IsOutOfMemory, OfBytes, RefusesRoot, AreWithin, RefusesTagged}

-- WHAT A REFUSAL ASKS FOR, as a path in the document of the root
-- a part of the workspace, and what stands in it under a name
abbrev pub shared_part : Text → Path
shared_part part = key (codes "workspace") ∷ key part ∷ []

abbrev pub shared_under : Text → Text → Path
shared_under part name = key (codes "workspace") ∷ key part ∷ key name ∷ []

-- the first key of a path
abbrev pub first_key : Path → Text
first_key (key k ∷ p) = k
first_key _ = []

-- What the workspace does not have, by the first key of the path in the member and by its name: a field of the package is
-- asked for in `workspace.package`, lints as `workspace.lints`, and a dependency, in whatever map of the member it stands, in
-- `workspace.dependencies`.
abbrev pub asked_by : Text → Text → Path
asked_by part name =
    if bytes_eq part (codes "package") then shared_under (codes "package") name
    else if bytes_eq part (codes "lints") then shared_part (codes "lints")
    else shared_under (codes "dependencies") name

-- THE PATH, by that of the refusal in the member: of a dependency that the workspace inherits that of the dependency there,
-- of mixed lints those of the workspace, and of a tool `workspace` this tool
abbrev pub asked_for : Path → Refusal → Path
asked_for p (not_in_workspace name) = asked_by (first_key p) name
asked_for p (inherited_in_workspace name) = shared_under (codes "dependencies") name
asked_for p mixed_lints = shared_part (codes "lints")
asked_for p tool_named_workspace = shared_under (codes "lints") (codes "workspace")

-- of a refusal of the code
abbrev pub asked_for_by : Path → Unresolved → Path
asked_for_by p r = asked_for p (refusal_of r)

-- the paths of refusals in the member, and in the root
abbrev pub own_paths : PlacedRefusals → List Path
own_paths rs = map (λ r. r.0) rs

abbrev pub asked_paths : PlacedRefusals → List Path
asked_paths rs = map (λ r. asked_for r.0 r.1) rs

-- AS A VALUE
-- A REFUSAL: 0, the status by which a call is refused for it, and the text of that status
abbrev pub refusal_data : Unresolved → Data
refusal_data r =
    triple_data (integer (pos 0)) (integer (pos (refusal_status r))) (string (refusal_name r))

-- what nodes say, in its order
abbrev pub refused_among : List (FindingNode Unresolved) → PlacedRefusals
refused_among nodes = map (λ f. (f.0, refusal_of f.1)) (placed_among nodes)

-- A TREE OF REFUSALS, where they stand in the text of the member, and what they ask for in that of the root
abbrev pub unresolved_data : List (FindingNode Unresolved) → List Located → List Located → Data
unresolved_data nodes own shared =
    triple_data (nodes_data refusal_data nodes) (places_data own) (places_data shared)

-- what is said of these refusals, by the bytes of the member and of the root
pub record SayRefusals (bytes root : Text) (refusals : PlacedRefusals) (d : Data) : Type 0 where
  pub nodes : List (FindingNode Unresolved)
  pub own : List Located
  pub shared : List Located
  pub says_all : refused_among nodes ≡ refusals
  pub stand_there : AreFoundIn bytes (own_paths refusals) own
  pub ask_for : AreFoundIn root (asked_paths refusals) shared
  pub is_data : d ≡ unresolved_data nodes own shared

-- the text is the tagged bytes of that
abbrev pub GivesRefused : ℕ → Text → Text → PlacedRefusals → Text → Type 0
GivesRefused most bytes root refusals text =
    (d : Data) × SayRefusals bytes root refusals d × AreWithin most (encoded d) text

-- memory ran out, or the tagged bytes are refused as they are made
abbrev pub RefusesRefused : ℕ → Text → Text → PlacedRefusals → Refusals
RefusesRefused most bytes root refusals e =
    IsOutOfMemory e
    ⊎ ((d : Data) × SayRefusals bytes root refusals d × RefusesTagged most (encoded d) e)

-- by the manifest of the root, which may have no workspace
abbrev pub GivesByRoot : ℕ → Text → Text → Manifest → Manifest → Text → Type 0
GivesByRoot most bytes root m r text =
    (w : Workspace) × (r.workspace ≡ Some w)
    × GivesRefused most bytes root (all_refusals m w) text

abbrev pub HasNoWorkspace : Manifest → Refusals
HasNoWorkspace r (Finishing NoWorkspace) = r.workspace ≡ None
HasNoWorkspace r _ = ⊥

abbrev pub RefusesByRoot : ℕ → Text → Text → Manifest → Manifest → Refusals
RefusesByRoot most bytes root m r e =
    HasNoWorkspace r e
    ⊎ ((w : Workspace) × (r.workspace ≡ Some w)
    × RefusesRefused most bytes root (all_refusals m w) e)

-- by the manifest of the member
abbrev pub GivesOfMember : ℕ → Text → Text → Manifest → Text → Type 0
GivesOfMember most bytes root m text =
    (r : Manifest) × Are Toml root r × GivesByRoot most bytes root m r text

abbrev pub RefusesOfMember : ℕ → Text → Text → Manifest → Refusals
RefusesOfMember most bytes root m e =
    RefusesRoot Toml (Some root) e
    ⊎ ((r : Manifest) × Are Toml root r × RefusesByRoot most bytes root m r e)

-- THE TEXT says all refusals of the member that the bytes are over the workspace of the root, and where they stand
abbrev pub GivesRefusals : ℕ → Text → Text → Text → Type 0
GivesRefusals most bytes root text =
    (m : Manifest) × Are Toml bytes m × GivesOfMember most bytes root m text

-- the member is not read, the root is not read or has no workspace, or the tagged bytes are refused as they are made
abbrev pub RefusesRefusals : ℕ → Text → Text → Refusals
RefusesRefusals most bytes root e =
    OfBytes (RefusesToRead Toml bytes) e
    ⊎ ((m : Manifest) × Are Toml bytes m × RefusesOfMember most bytes root m e)
