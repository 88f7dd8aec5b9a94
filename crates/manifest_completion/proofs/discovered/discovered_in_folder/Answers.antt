use Rattle.std.proofs.Common.{◌≡◌, ◌++◌, [], List, map, ap, sym, ◌∙◌, string_bytes}
use Rattle.std.specs.Slice.Iter.{iter_rest}
use Rattle.std.proofs.lemmas.List.{nil_from_length}
use Rattle.manifest_completion.specs.Answered.{answer_of}
use Rattle.manifest_completion.specs.Finds.{Discovered}
use Rattle.manifest_completion.specs.Steps.{all_discovered_content, paired_discovered}
use Rattle.manifest_completion.proofs.DiscoveredLemmas.{paired_none}
use Rattle.manifest_completion.proofs.discovered.discovered_in_folder.Goals as goal

pub loop-name-preserved : goal.loop-name-preserved
loop-name-preserved c =
    let d = c.args.folder.now in let so_far = all_discovered_content c.loop-name.discovered.items in
    let left = map string_bytes c.next.new.self in let before = map string_bytes c.loop-name.name-iterator in
    let nil : iter_rest c.loop-name.entries ≡ [] = nil_from_length (iter_rest c.loop-name.entries)
    c.in-None-next.ensures.steps.0 in
    let same : iter_rest c.next-in-loop-name.new.self ≡ [] = ap iter_rest c.in-None-next.ensures.steps.1 ∙ nil in
    ap (λ (x : List Discovered). so_far ++ x)
    (ap (λ x. paired_discovered d left (map answer_of x)) same ∙ paired_none d left
    ∙ sym (ap (λ x. paired_discovered d before (map answer_of x)) nil ∙ paired_none d before))
    ∙ c.loop-name.invariant
