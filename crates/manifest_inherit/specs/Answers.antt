-- What resolving a manifest answers, and the refusals of the code as the definitions see them.
use Rattle.manifest_schema.specs.Prelude.{Path, Workspace, Manifest}
use Rattle.std.specs.Prelude.{◌≡◌, [], map, Some, Result, Ok, Err, string_bytes}
use Rattle.manifest_fault.specs.Faults.{path_of}
use Rattle.manifest_fault.specs.Placed.{first_of, placed}
use Rattle.manifest_fault.specs.declared.findings.Findings.{Findings}
use Rattle.manifest_inherit.specs.Resolved.{resolved}
use Rattle.manifest_inherit.specs.Refused.{Refusal, PlacedRefusals, not_in_workspace, inherited_in_workspace, mixed_lints, tool_named_workspace, all_refusals}
use Rattle.manifest_inherit.specs.declared.error.Refusal.{Refusal as RefusalOfCode}
use Rattle.manifest_inherit.specs.declared.error.Refusal.TheVariants.{NotInWorkspace, InheritedInWorkspace, MixedLints, ToolNamedWorkspace}
use Rattle.manifest_inherit.specs.declared.error.ResolveFault.{ResolveFault}
use Rattle.manifest_inherit.specs.declared.error.ResolveError.{ResolveError}
use Rattle.manifest_inherit.specs.declared.error.ResolveError.TheVariants.{Refused, Memory}

-- a refusal
abbrev pub refusal_of : RefusalOfCode → Refusal
refusal_of (NotInWorkspace s) = not_in_workspace (string_bytes s)
refusal_of (InheritedInWorkspace s) = inherited_in_workspace (string_bytes s)
refusal_of MixedLints = mixed_lints
refusal_of ToolNamedWorkspace = tool_named_workspace

-- all refusals, in their order
abbrev pub refused : Findings RefusalOfCode → PlacedRefusals
refused fs = map (λ f. (f.0, refusal_of f.1)) (placed fs)

-- a refusal, by its path and what it is
abbrev pub fault_of : ResolveFault → Path × Refusal
fault_of f = (path_of f.path, refusal_of f.refusal)

-- THE MANIFEST IS RESOLVED over the workspace to the other one: there is no refusal, and that is what it becomes
pub record ResolvesTo (m : Manifest) (w : Workspace) (n : Manifest) : Type 0 where
  pub accepted : all_refusals m w ≡ []
  pub becomes : n ≡ resolved m w

-- the error is the first of these refusals, with its path, or out of memory
abbrev pub RefusesFirst : PlacedRefusals → ResolveError → Type 0
RefusesFirst refusals (Refused f) = first_of refusals ≡ Some (fault_of f)
RefusesFirst refusals (Memory e) = Unit {0}

-- out of memory
abbrev pub IsOutOfMemory : ResolveError → Type 0
IsOutOfMemory (Memory e) = Unit {0}
IsOutOfMemory _ = ⊥

-- WHAT RESOLVING A MANIFEST ANSWERS, which it leaves as the second one
abbrev pub Resolves : Manifest → Workspace → Manifest → Result (Unit {0}) ResolveError → Type 0
Resolves old w new (Ok u) = ResolvesTo old w new
Resolves old w new (Err e) = RefusesFirst (all_refusals old w) e
