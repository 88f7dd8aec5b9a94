-- Over folders that are given, what is stored decides what a completion gives.
use Rattle.manifest_schema.specs.Prelude.{Bor, Text, Manifest}
use Rattle.std.proofs.Common.{ℕ, inl, inr, Option, Some, None, Ok, Err}
use Rattle.manifest_completion.specs.Listings.{Answer}
use Rattle.manifest_completion.specs.Stored.{AnswersAsStored}
use Rattle.cargo_manifest.specs.Completes.{StoredDecides}
use Rattle.manifest_inherit.specs.Finished.{CompletedOver, Finishes, RefusesToCompleteOver, RefusesToFinish}
use Rattle.manifest_inherit.specs.declared.error.FinishError.{FinishError}
use Rattle.manifest_inherit.specs.declared.error.FinishError.TheVariants.{Manifest as Incomplete}
use Rattle.manifest_answers.specs.declared.folders.GivenFolders.{GivenFolders}
use Rattle.manifest_answers.specs.declared.refusal.Refusal.TheVariants.{Finishing}
use Rattle.manifest_answers.specs.Given.{given_by}
use Rattle.manifest_answers.specs.Made.{stored_by, InheritsWithin, CompletesStored, RefusesToCompleteStored, FinishesStored, RefusesToFinishStored}

-- what folders that are given allow
abbrev pub allowed : GivenFolders → Text → Answer → Type 0
allowed folders = AnswersAsStored (given_by folders)

completed_as_stored : StoredDecides → (folders : Option (Bor GivenFolders)) (m n : Manifest) → CompletedOver allowed
    folders m n → CompletesStored (stored_by folders) m n
completed_as_stored decides None m n h = h
completed_as_stored decides (Some f) m n h = decides (given_by f.now) m n (Ok tt) h

refused_as_stored : StoredDecides → (folders : Option (Bor GivenFolders)) (m n : Manifest) (e : FinishError)
    → RefusesToCompleteOver allowed folders m n e → RefusesToCompleteStored (stored_by folders) m e
refused_as_stored decides (Some f) m n (Incomplete e) h = decides (given_by f.now) m n (Err e) h.0
refused_as_stored decides _ m n _ h = absurd h

pub finished_as_stored : StoredDecides → (most : ℕ) (root : Option Manifest) (folders : Option (Bor GivenFolders))
    (m n : Manifest) → InheritsWithin most root m → Finishes allowed root folders m n → FinishesStored most root
    (stored_by folders) m n
finished_as_stored decides most root folders m n within (o, inherits, completes) =
    (within, (o, inherits, completed_as_stored decides folders o n completes))

pub unfinished_as_stored : StoredDecides → (most : ℕ) (root : Option Manifest) (folders : Option (Bor GivenFolders))
    (m n : Manifest) (e : FinishError) → RefusesToFinish allowed root folders m n e → RefusesToFinishStored most root
    (stored_by folders) m (Finishing e)
unfinished_as_stored decides most root folders m n e (inl h) = inl (n, h)
unfinished_as_stored decides most root folders m n e (inr (o, inherits, h)) =
    inr (o, inherits, refused_as_stored decides folders o n e h)
