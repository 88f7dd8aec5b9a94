-- What diagnostics tell of, one more of them at a time.
use Rattle.std.proofs.Common.{◌≡◌, ◌++◌, List, [], ◌∷◌, append-nil, append_assoc, ap, sym, ◌∙◌, arith}
use Rattle.std.proofs.lemmas.Grind.{common_steps, flat_map-append}
use Rattle.manifest_schema.specs.Findings.{Finding}
use Rattle.manifest_lint.specs.Lint.{reported_by, findings_reported}
use Rattle.manifest_lint.specs.declared.diagnostic.Diagnostic.{Diagnostic}

-- what is placed tells what it told before, so that the next one moves over
pub next_reported : (ds : List Diagnostic) (d e : Diagnostic) (rest : List Diagnostic)
    → reported_by d.subject d ≡ reported_by e.subject e
    → findings_reported (ds ++ d ∷ []) ++ findings_reported rest
    ≡ findings_reported ds ++ findings_reported (e ∷ rest)
next_reported ds d e rest same =
    rw (flat_map-append (λ x. reported_by x.subject x) ds (d ∷ []), append-nil (reported_by d.subject d), same)
    (append_assoc (findings_reported ds) (reported_by e.subject e) (findings_reported rest))

-- what tells none adds none
pub none_reported : (ds : List Diagnostic) (d : Diagnostic) → reported_by d.subject d ≡ []
    → findings_reported (ds ++ d ∷ []) ≡ findings_reported ds
none_reported ds d none =
    rw (flat_map-append (λ x. reported_by x.subject x) ds (d ∷ []), append-nil (reported_by d.subject d), none)
    (append-nil (findings_reported ds))
