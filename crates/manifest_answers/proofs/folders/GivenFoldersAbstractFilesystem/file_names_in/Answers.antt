use Rattle.std.proofs.Common.{inl, ap, sym, ◌∙◌, Option, option_map}
use Rattle.manifest_completion.specs.Listings.{names}
use Rattle.manifest_completion.proofs.DiscoveredLemmas.{bytes_of_clones}
use Rattle.manifest_answers.specs.declared.folders.Listed.{Listed}
use Rattle.manifest_answers.specs.Given.{listed_answer, or_not_found}
use Rattle.manifest_answers.proofs.folders.GivenFoldersAbstractFilesystem.file_names_in.Goals as goal

pub returns-in_ok-clone-in-Some-Names : goal.returns-in_ok-clone-in-Some-Names
returns-in_ok-clone-in-Some-Names c =
    let kept = c.in-Some-Names.names in
    inl (ap names (bytes_of_clones kept.keys c.in_ok-clone-in-Some-Names.field-0.keys
    c.in_ok-clone-in-Some-Names.ensures.cases)
    ∙ ap listed_answer (sym c.in-Some-Names.field-0-is)
    ∙ ap (λ (o : Option Listed). or_not_found (option_map listed_answer o)) c.in-Some-Names.ensures.value)
