use Rattle.std.proofs.Common.{inl, ap, sym, ◌∙◌, Some}
use Rattle.manifest_completion.specs.declared.listings.Listing.{Listing}
use Rattle.manifest_completion.specs.Listings.{names}
use Rattle.manifest_completion.specs.Stored.{stored_answer}
use Rattle.manifest_completion.proofs.DiscoveredLemmas.{bytes_of_clones}
use Rattle.manifest_completion.proofs.listings.ListingsAbstractFilesystem.file_names_in.Goals as goal

pub returns-in_ok-clone-in-Some-Names : goal.returns-in_ok-clone-in-Some-Names
returns-in_ok-clone-in-Some-Names c =
    let kept = c.in-Some-Names.names in
    inl (ap names (bytes_of_clones kept.keys c.in_ok-clone-in-Some-Names.field-0.keys
    c.in_ok-clone-in-Some-Names.ensures.cases)
    ∙ ap (λ (x : Listing). stored_answer (Some x)) (sym c.in-Some-Names.field-0-is)
    ∙ ap stored_answer c.in-Some-Names.ensures.value)
