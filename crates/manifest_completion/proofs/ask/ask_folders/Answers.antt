use Rattle.std.proofs.Common.{◌≡◌, ◌||◌, ap}
use Rattle.manifest_completion.proofs.AnswerLemmas.{all_answered}
use Rattle.manifest_completion.proofs.ask.ask_folders.Goals as goal

pub returns-clause-answered : goal.returns-clause-answered
returns-clause-answered g c =
    let b = c.ran_out_of_memory-after_bins.result in let e = b || c.ran_out_of_memory.result in
    let t = e || c.ran_out_of_memory-2.result in
    let after_b = c.ran_out_of_memory-after_bins.ensures in let after_e = ap (λ x. b || x) c.ran_out_of_memory.ensures in
    let after_t = ap (λ x. e || x) c.ran_out_of_memory-2.ensures in
    let after_n = ap (λ x. t || x) c.ran_out_of_memory-3.ensures in
    let bins = c.in_ok-bins.ensures in let examples = c.in_ok-examples.ensures in let tests = c.in_ok-tests.ensures in
    let benches = c.in_ok-benches.ensures in let root = c.ask_root_if-root.ensures in
    all_answered (g.FS.AbstractFilesystem.allows c.args.fs.now) c.args.asks_root _ c.requires
    (bins, (b, after_b, (examples, (e, after_e, (tests, (t, after_t, (benches, (_, after_n, root))))))))
