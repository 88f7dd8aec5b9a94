-- Of texts no date-time comes that cannot be written, so that status 7 is never told of them.
use Rattle.manifest_schema.specs.Prelude.{Text, Manifest, KeepsValidDates}
use Rattle.std.proofs.Common.{◌≡◌, ℕ, List, Option, Some, None, Vec, Global, Result, Ok, Err, Bool, true, false, true≢false, inl, inr, sym, subst, ◌∙◌, arith}
use Rattle.manifest_schema.proofs.Values.DateLaws.{written_dates_are_valid}
use Rattle.manifest_fault.specs.declared.error.Error.{Error}
use Rattle.manifest_fault.specs.declared.error.Error.TheVariants as error
use Rattle.manifest_fault.specs.declared.error.ParseFault.TheVariants.{Toml as NoToml}
use Rattle.manifest_completion.specs.Listings.{Answer as Listed}
use Rattle.manifest_completion.specs.Stored.{stored_map}
use Rattle.cargo_manifest.proofs.ParsedLemmas.{read_dates_are_valid}
use Rattle.cargo_manifest.proofs.CompletedLemmas.{completed_dates_are_valid}
use Rattle.manifest_inherit.specs.Finished.{Inherits}
use Rattle.manifest_inherit.proofs.KeptLemmas.{resolved_dates_are_valid}
use Rattle.manifest_inherit.specs.declared.error.FinishError.{FinishError}
use Rattle.manifest_inherit.specs.declared.error.FinishError.TheVariants as unfinished
use Rattle.manifest_inherit.specs.declared.error.ResolveError.{ResolveError}
use Rattle.manifest_inherit.specs.declared.error.ResolveError.TheVariants.{Refused}
use Rattle.manifest_inherit.specs.declared.error.Refusal.{Refusal as Unresolved}
use Rattle.manifest_inherit.specs.declared.error.Refusal.TheVariants as unresolved
use Rattle.manifest_answers.specs.declared.folders.Folder.{Folder}
use Rattle.manifest_answers.specs.declared.reading.Input.TheVariants.{Toml}
use Rattle.manifest_answers.specs.declared.making.Output.{Output}
use Rattle.manifest_answers.specs.declared.making.Output.TheVariants.{CanonicalText, TaggedTable}
use Rattle.manifest_answers.specs.declared.refusal.InputError.{InputError}
use Rattle.manifest_answers.specs.declared.refusal.InputError.TheVariants as unread
use Rattle.manifest_answers.specs.declared.refusal.Refusal.{Refusal}
use Rattle.manifest_places.specs.declared.edits.EditError.{EditError}
use Rattle.manifest_places.specs.declared.edits.EditError.TheVariants as unedited
use Rattle.manifest_answers.specs.declared.refusal.Refusal.TheVariants.{Bytes, Root, Finishing, Printing, Edits}
use Rattle.manifest_answers.specs.declared.reporting.Report.{Report}
use Rattle.manifest_answers.specs.Report.{ReportsError, ReportsInput, TellsUnresolved, ReportsResolving, ReportsFinishing, ReportsPrinting, ReportsEdits, Reports}
use Rattle.manifest_answers.specs.Made.{CompletesStored, Makes, RefusesRoot, RefusesToMake, RefusesOutput, Gives, OrOutput, IsMade}
use Rattle.manifest_answers.specs.Answered.{Outcome}

-- WHAT IS MADE of texts keeps valid date-times
inherits_keeps : (root : Option Manifest) (m n : Manifest) → KeepsValidDates m → Inherits root m n → KeepsValidDates n
inherits_keeps None m n keeps same = subst KeepsValidDates (sym same) keeps
inherits_keeps (Some r) m n keeps (w, has, resolves) = resolved_dates_are_valid m n w keeps resolves

completes_keeps : (stored : Option (Text → Listed)) (m n : Manifest) → KeepsValidDates m → CompletesStored stored m n
    → KeepsValidDates n
completes_keeps None m n keeps same = subst KeepsValidDates (sym same) keeps
completes_keeps (Some s) m n keeps becomes = completed_dates_are_valid m n (stored_map s) keeps becomes

-- THE NUMBERS: no other refusal than that of a date-time is reported by 7
error_is_not_seven : (is_root : Bool) (e : Error) (t : Report) → ReportsError is_root e t → t.status ≡ 7 → ⊥
error_is_not_seven true (error.Parse (NoToml e)) t h seven = omega (arith, h.status)
error_is_not_seven false (error.Parse (NoToml e)) t h seven = omega (arith, h.status)
error_is_not_seven _ _ t h seven = omega (arith, h.0)

input_is_not_seven : (is_root : Bool) (e : InputError) (t : Report) → ReportsInput is_root e t → t.status ≡ 7 → ⊥
input_is_not_seven true (unread.Manifest e) t h seven = error_is_not_seven true e t h seven
input_is_not_seven false (unread.Manifest e) t h seven = error_is_not_seven false e t h seven
input_is_not_seven _ _ t h seven = omega (arith, h.0)

unresolved_is_not_seven : (r : Unresolved) (t : Report) → TellsUnresolved r t → t.status ≡ 7 → ⊥
unresolved_is_not_seven (unresolved.NotInWorkspace s) t h seven = omega (arith, h.0)
unresolved_is_not_seven _ t h seven = omega (arith, h.0)

resolving_is_not_seven : (e : ResolveError) (t : Report) → ReportsResolving e t → t.status ≡ 7 → ⊥
resolving_is_not_seven (Refused f) t h seven = unresolved_is_not_seven f.refusal t h seven
resolving_is_not_seven _ t h seven = omega (arith, h.0)

finishing_is_not_seven : (e : FinishError) (t : Report) → ReportsFinishing e t → t.status ≡ 7 → ⊥
finishing_is_not_seven (unfinished.Manifest e) t h seven = error_is_not_seven false e t h seven
finishing_is_not_seven (unfinished.Resolve e) t h seven = resolving_is_not_seven e t h seven
finishing_is_not_seven _ t h seven = omega (arith, h.0)

edits_are_not_seven : (e : EditError) (t : Report) → ReportsEdits e t → t.status ≡ 7 → ⊥
edits_are_not_seven unedited.NotAValue t h seven = omega (arith, h.0)
edits_are_not_seven unedited.NoPlace t h seven = omega (arith, h.0)
edits_are_not_seven unedited.Overlap t h seven = omega (arith, h.0)
edits_are_not_seven _ t h seven = omega (arith, h.0)

-- only what a manifest is asked for is refused as printed, and none that keeps valid date-times for one
not_of_root : (root : Option (List ℕ)) (e : Error) → RefusesRoot Toml root (Printing e) → ⊥
not_of_root None e h = h
not_of_root (Some b) e h = h

date_is_valid : (output : Output) (most : ℕ) (m : Manifest) (s : _) → KeepsValidDates m → RefusesOutput output most m
    (Printing (error.Other s)) → ⊥
date_is_valid CanonicalText most m s keeps h = true≢false (sym (written_dates_are_valid m keeps) ∙ h.0)
date_is_valid TaggedTable most m s keeps h = h

module _ (output : Output) (most : ℕ) (bytes : List ℕ) (root : Option (List ℕ)) (folders : Option (List Folder)) where
  made_keeps : (m : Manifest) → Makes most Toml bytes root folders m → KeepsValidDates m
  made_keeps m (listings, (n, is, (r, is_root, (within, (o, inherits, completes))))) =
      let read = read_dates_are_valid bytes n (record {
        document = is.document;
        parsed = is.is_document.parsed;
        meant =
            is.meant;
      }) in
      completes_keeps _ o m (inherits_keeps r n o read inherits) completes

  not_made_by_printing : (e : Error) → RefusesToMake most Toml bytes root folders (Printing e) → ⊥
  not_made_by_printing e (inr (inr (m, is, inl h))) = not_of_root root e h
  not_made_by_printing e (inr (inr (m, is, inr (r, is_root, h)))) = h
  not_made_by_printing e (inr (inl h)) = h
  not_made_by_printing e (inl h) = h

  abbrev Refuses : Refusal → Type 0
  Refuses = OrOutput output most (Makes most Toml bytes root folders) (RefusesToMake most Toml bytes root folders)

  printing_is_not_seven : (e : Error) (t : Report) → Refuses (Printing e) → ReportsPrinting e t → t.status ≡ 7 → ⊥
  printing_is_not_seven (error.Other s) t (inl r) h seven = not_made_by_printing (error.Other s) r
  printing_is_not_seven (error.Other s) t (inr (m, is, r)) h seven = date_is_valid output most m s (made_keeps m is) r
  printing_is_not_seven e t r h seven = error_is_not_seven false e t h seven

  refusal_is_not_seven : (e : Refusal) (t : Report) → Refuses e → Reports e t → t.status ≡ 7 → ⊥
  refusal_is_not_seven (Bytes e) t r h seven = input_is_not_seven false e t h seven
  refusal_is_not_seven (Root e) t r h seven = input_is_not_seven true e t h seven
  refusal_is_not_seven (Finishing e) t r h seven = finishing_is_not_seven e t h seven
  refusal_is_not_seven (Printing e) t r h seven = printing_is_not_seven e t r h seven
  refusal_is_not_seven (Edits e) t r h seven = edits_are_not_seven e t h seven
  refusal_is_not_seven _ t r h seven = omega (arith, h.0)

  -- of texts nothing is reported by 7
  pub is_not_seven : (made : Result (Vec ℕ Global) Refusal) (t : Report)
      → IsMade (Gives output most (Makes most Toml bytes root folders)) Refuses made → Outcome made t → t.status ≡ 7 → ⊥
  is_not_seven (Ok v) t r h seven = omega (arith, h.0)
  is_not_seven (Err e) t r (inl memory, utf8) seven = omega (arith, memory.0)
  is_not_seven (Err e) t r (inr h, utf8) seven = refusal_is_not_seven e t r h seven
