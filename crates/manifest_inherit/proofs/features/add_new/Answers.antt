use Rattle.std.proofs.Common.{map, string_bytes, ap, ◌∙◌}
use Rattle.manifest_completion.specs.Index.{paths_in}
use Rattle.manifest_inherit.specs.ForProofs.{borrowed_texts}
use Rattle.manifest_inherit.proofs.FeatureLemmas.{same_new}
use Rattle.manifest_inherit.proofs.features.add_new.Goals as goal

pub returns : goal.returns
returns c =
    let had = map string_bytes c.args.features.now.items in
    let same = rw c.as_slice.ensures.value at c.in_ok-there.ensures in
    let new = ap borrowed_texts c.as_slice-2.ensures.value ∙ c.in_ok-new.ensures
    ∙ same_new (paths_in c.in_ok-there.there) had (map string_bytes c.args.own.now) same in
    rw new at c.append.ensures
