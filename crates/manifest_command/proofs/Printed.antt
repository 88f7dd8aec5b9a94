-- What was printed, or begun.
use Rattle.manifest_schema.specs.Prelude.{Appends, Keeps, Manifest, raw_metadata}
use Rattle.std.proofs.Common.{◌≡◌, ℕ, inl, inr, List, [], Option, Some, None, IfSome, ◌∙◌, sym, subst, append-nil}
use Rattle.std.proofs.KnownBytes.{Keeps-refl}
use Rattle.manifest_fault.specs.declared.error.Error.{Error}
use Rattle.manifest_fault.specs.declared.error.Error.TheVariants.{Parse, Io, Utf8, Other, Memory}
use Rattle.cargo_manifest.specs.Answers.{Refuses, RefusesToPrint}
use Rattle.cargo_manifest.specs.Canonical.{rewritten, Means}
use Rattle.manifest_command.specs.Run.{Begins, FailsToPrint, IsRefused}

-- a flush keeps what was written
pub appends_kept : (old mid new : Option (List ℕ)) (text : List ℕ) → Appends old mid text → Keeps mid new
    → Appends old new text
appends_kept None mid new text a k = tt
appends_kept (Some xs) None new text a k = absurd a
appends_kept (Some xs) (Some ys) None text a k = absurd k
appends_kept (Some xs) (Some ys) (Some zs) text a k = k ∙ a

-- a whole text is a beginning of it
pub begins_whole : (old new : Option (List ℕ)) (text : List ℕ) → Appends old new text → Begins old new text
begins_whole old new text a = record { written = text; rest = []; whole = sym (append-nil text); out = a }

-- where the text is refused nothing is written
pub fails_unwritten : (m : Manifest) (old : Option (List ℕ)) (e : Error) → RefusesToPrint (rewritten m) e
    → FailsToPrint m old old e
fails_unwritten m old (Io e) r = inl (Keeps-refl old)
fails_unwritten m old (Parse e) r = (r, Keeps-refl old)
fails_unwritten m old (Utf8 e) r = (r, Keeps-refl old)
fails_unwritten m old (Other e) r = (r, Keeps-refl old)
fails_unwritten m old (Memory e) r = (r, Keeps-refl old)

-- where the bytes are refused nothing is written
pub refused_by_bytes : (bytes : List ℕ) (old : Option (List ℕ)) (e : Error) → Refuses raw_metadata raw_metadata bytes e
    → IsRefused bytes old old e
refused_by_bytes bytes old (Io e) r = inl (Keeps-refl old)
refused_by_bytes bytes old (Parse e) r = (inl r, Keeps-refl old)
refused_by_bytes bytes old (Utf8 e) r = (inl r, Keeps-refl old)
refused_by_bytes bytes old (Other e) r = (inl r, Keeps-refl old)
refused_by_bytes bytes old (Memory e) r = (inl r, Keeps-refl old)

-- what the bytes mean is not printed
pub refused_as_printed : (bytes : List ℕ) (m : Manifest) (old new : Option (List ℕ)) (e : Error) → Means bytes m
    → FailsToPrint m old new e → IsRefused bytes old new e
refused_as_printed bytes m old new (Io e) r f = inr (m, r, f)
refused_as_printed bytes m old new (Parse e) r f = (inr (m, r, f.0), f.1)
refused_as_printed bytes m old new (Utf8 e) r f = (inr (m, r, f.0), f.1)
refused_as_printed bytes m old new (Other e) r f = (inr (m, r, f.0), f.1)
refused_as_printed bytes m old new (Memory e) r f = (inr (m, r, f.0), f.1)

-- what holds of the bytes that were read holds of the known input
pub at_known : (P : List ℕ → Type 0) (known : Option (List ℕ)) (bytes shared : List ℕ) → IfSome known (λ xs. bytes ≡ xs)
    → shared ≡ bytes → P shared → IfSome known P
at_known P None bytes shared same l p = tt
at_known P (Some xs) bytes shared same l p = subst P (l ∙ same) p
