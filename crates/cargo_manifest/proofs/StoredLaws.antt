-- Where one answer is stored for each path text, what is stored decides what completing a manifest answers.
use Rattle.std.proofs.Common.{⊎_elim, inl, inr, Ok, Err}
use Rattle.std.specs.IoError.{error_kind}
use Rattle.manifest_fault.specs.declared.error.Error.TheVariants.{Parse, Io, Utf8, Other, Memory}
use Rattle.manifest_completion.specs.Completed.{completed_to, refused, no_library, completed}
use Rattle.manifest_completion.specs.Stored.{stored_map}
use Rattle.manifest_completion.proofs.StoredLaws.{manifest_settled, by_stored}
use Rattle.manifest_completion.specs.Unfound.{manifest_unfound, manifest_asked_unfound}
use Rattle.manifest_completion.proofs.UnfoundDecides.{manifest_settled as unfound_settled, is_outcome}
use Rattle.cargo_manifest.specs.Completes.{StoredDecides, StoredDecidesUnfound}

pub stored_decides : StoredDecides
stored_decides stored old new (Ok u) h =
    ⊎_elim (λ same. same) (λ lost. cc)
    (by_stored (completed old h.0) (completed old (stored_map stored)) (completed_to new) (manifest_settled stored h.0
    old h.1.allowed) h.2)
stored_decides stored old new (Err (Io e)) h =
    ⊎_elim (λ same. inl same) (λ lost. inr cc)
    (by_stored (completed old h.0) (completed old (stored_map stored)) (refused (error_kind e))
    (manifest_settled stored h.0 old h.1.allowed) h.2)
stored_decides stored old new (Err (Other s)) h =
    ⊎_elim (λ same. (same, h.1)) (λ lost. cc)
    (by_stored (completed old h.0.0) (completed old (stored_map stored)) no_library (manifest_settled stored h.0.0 old
    h.0.1.allowed) h.0.2)
stored_decides stored old new (Err (Memory e)) h = tt
stored_decides stored old new (Err (Parse e)) h = absurd h
stored_decides stored old new (Err (Utf8 e)) h = absurd h

pub stored_decides_unfound : StoredDecidesUnfound
stored_decides_unfound stored m r h = is_outcome stored (manifest_asked_unfound m) (manifest_unfound m)
    (unfound_settled stored m) r h
