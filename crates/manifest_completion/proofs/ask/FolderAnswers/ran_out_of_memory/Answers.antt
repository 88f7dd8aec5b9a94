use Rattle.std.proofs.Common.{◌≡◌, rules, tests, sym, false}
use Rattle.std.specs.List.{list_any}
use Rattle.std.proofs.lemmas.Iterator.{YieldsList-from_slice}
use Rattle.std.proofs.lemmas.Iterator.Search.{any_from_yields_List}
use Rattle.manifest_completion.specs.Answered.{answer_of}
use Rattle.manifest_completion.specs.Listings.{is_memory_fault}
use Rattle.manifest_completion.proofs.ask.FolderAnswers.ran_out_of_memory.Goals as goal

pub returns-else-is_memory_fault : goal.returns-else-is_memory_fault
returns-else-is_memory_fault c =
    let xs = c.args.self.now.entries.items in
    let e : c.any.result ≡ list_any (λ x. is_memory_fault (answer_of x)) xs = any_from_yields_List
    (λ x. is_memory_fault (answer_of x)) _ _ c.any.result c.any.ensures.ran (YieldsList-from_slice xs cc)
    (λ x b q k. search (rules, tests)) in
    let q : is_memory_fault (answer_of c.args.self.now.own) ≡ false = sym c.if-is_memory_fault.ensures in
    rw q e
