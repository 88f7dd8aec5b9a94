-- The laws one by one, of a kind that satisfies them all.
use Rattle.manifest_schema.specs.Prelude.{Kind, faults_of, inh, unused_in, left_out, IsSound, IsLawful, IsTotal, IsTidy, IsClean, IsDiverging}
use Rattle.std.proofs.Common.{◌≡◌, inl, inr, ap, ◌∙◌}
use Rattle.manifest_schema.proofs.Findings.Faultless.{none_or_some, decided_apart, decided_total, faults-but}
use Rattle.manifest_schema.proofs.Values.KindLaws.{same, inh_read, inh_once}

module _ {A : Type 0} {K : Kind A} (S : IsSound K) where
  pub lawful_of : IsLawful K
  lawful_of = record {
    single = S.single;
    apart = λ d p c x f a. decided_apart (K.findings d) (S.decided d) p c x f a;
    well = S.well;
    back = λ x g. (S.back x g).0;
    exact = λ d p c. same;
  }

  pub total_of : IsTotal K
  total_of = record { total = λ d. decided_total (K.findings d) (S.decided d) }

  pub tidy_of : IsTidy K
  tidy_of = record {
    reads = λ d s. (S.tidy d s).0;
    faulty = λ d s p c.
        let e : faults_of (K.findings (left_out (unused_in K d) d)) ≡ faults_of (K.findings d) =
        ap faults_of (S.tidy d s).1 ∙ faults-but (K.findings d) in
        rw e same;
    inside = S.inside;
  }

  pub clean_of : IsClean K
  clean_of = record { clean = λ x g. (S.back x g).1 }

  pub diverging_of : IsDiverging K
  diverging_of = record { diverging = S.once }

  -- two of them hold of what may be inherited also where a value of its own may be a table
  pub inh_total : IsTotal (inh K)
  inh_total = record { total = λ d. elim (none_or_some _) [ inl e ↦ inl (inh_read S d e) | inr f ↦ inr f ] }

  pub inh_diverging : IsDiverging (inh K)
  inh_diverging = record { diverging = inh_once S }
