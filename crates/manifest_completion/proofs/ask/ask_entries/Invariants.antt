use Rattle.std.proofs.Common.{map, string_bytes}
use Rattle.std.specs.List.{AllZip}
use Rattle.manifest_completion.specs.Answered.{answers_of}
use Rattle.manifest_completion.proofs.AskLemmas.{Answered}
use Rattle.manifest_completion.proofs.ask.ask_entries.Given as goal

abbrev pub invariant-loop-name : goal.invariant-loop-name
invariant-loop-name g l = AllZip (Answered (g.FS.AbstractFilesystem.allows l.fs) l.folder)
    (map (λ x. string_bytes x.now) l.yielded) (answers_of l.entries)
