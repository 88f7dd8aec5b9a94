-- What is made of a manifest: resolved over a root's workspace, if any, and completed over a filesystem, if any.
use Rattle.manifest_schema.specs.Prelude.{Bor, view, Value, Text, Workspace, Manifest}
use Rattle.std.specs.Prelude.{◌≡◌, ◌⊎◌, Option, Some, None, option_map}
use Rattle.manifest_completion.specs.Listings.{Answer}
use Rattle.manifest_completion.specs.Completed.{completed_to}
use Rattle.cargo_manifest.specs.Completes.{ComesTo, RefusesToComplete}
use Rattle.cargo_manifest.specs.Whole.{manifest_content}
use Rattle.cargo_manifest.specs.declared.manifest.Manifest.{Manifest as ManifestOfCode}
use Rattle.manifest_inherit.specs.Answers.{ResolvesTo, RefusesFirst}
use Rattle.manifest_inherit.specs.Refused.{all_refusals}
use Rattle.manifest_inherit.specs.declared.error.FinishError.{FinishError}
use Rattle.manifest_inherit.specs.declared.error.FinishError.TheVariants.{Manifest as Incomplete, NoWorkspace, Resolve}

-- the manifest of a root, where there is one
abbrev pub root_of : Option (Bor (ManifestOfCode Value Value)) → Option Manifest
root_of root = option_map (λ r. manifest_content view view r.now) root

-- WITH WHAT IT INHERITS from the workspace of the root; without a root it stays as it is
abbrev pub Inherits : Option Manifest → Manifest → Manifest → Type 0
Inherits None m n = n ≡ m
Inherits (Some root) m n = (w : Workspace) × (root.workspace ≡ Some w) × ResolvesTo m w n

-- the refusal: the root has no workspace, or resolving over its workspace is refused; the manifest stays as it is
abbrev pub RefusesToInherit : Option Manifest → Manifest → Manifest → FinishError → Type 0
RefusesToInherit (Some root) m n NoWorkspace = (root.workspace ≡ None) × (n ≡ m)
RefusesToInherit (Some root) m n (Resolve e) =
    (w : Workspace) × (root.workspace ≡ Some w) × RefusesFirst (all_refusals m w) e × (n ≡ m)
RefusesToInherit _ m n _ = ⊥

module _ {F : Type 0} (allows : F → Text → Answer → Type 0) where
  -- COMPLETED over what the filesystem allows; without a filesystem it stays as it is
  abbrev pub CompletedOver : Option (Bor F) → Manifest → Manifest → Type 0
  CompletedOver None m n = n ≡ m
  CompletedOver (Some folders) m n = ComesTo (allows folders.now) m (completed_to n)

  -- the refusal to complete it; the manifest stays as it is
  abbrev pub RefusesToCompleteOver : Option (Bor F) → Manifest → Manifest → FinishError → Type 0
  RefusesToCompleteOver (Some folders) m n (Incomplete e) = RefusesToComplete (allows folders.now) m
      e × (n ≡ m)
  RefusesToCompleteOver _ m n _ = ⊥

  -- THE MANIFEST IS FINISHED: with what it inherits, and then completed
  abbrev pub Finishes : Option Manifest → Option (Bor F) → Manifest → Manifest → Type 0
  Finishes root folders old new =
      (m : Manifest) × Inherits root old m × CompletedOver folders m new

  -- the refusal of one of the two steps, with the manifest as it is left
  abbrev pub RefusesToFinish : Option Manifest → Option (Bor F) → Manifest → Manifest →
      FinishError → Type 0
  RefusesToFinish root folders old new e =
      RefusesToInherit root old new e
      ⊎ ((m : Manifest) × Inherits root old m × RefusesToCompleteOver folders m new e)
