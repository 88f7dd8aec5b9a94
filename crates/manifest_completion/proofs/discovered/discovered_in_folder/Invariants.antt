use Rattle.std.proofs.Common.{◌≡◌, ◌++◌, map, string_bytes}
use Rattle.std.specs.Slice.Iter.{iter_rest}
use Rattle.manifest_completion.specs.Answered.{answer_of}
use Rattle.manifest_completion.specs.Steps.{all_discovered_content, paired_discovered, folder_paired}
use Rattle.manifest_completion.proofs.discovered.discovered_in_folder.Given as goal

abbrev pub invariant-loop-name : goal.invariant-loop-name
invariant-loop-name l =
    all_discovered_content l.discovered.items ++ paired_discovered l.folder (map string_bytes l.name-iterator)
    (map answer_of (iter_rest l.entries))
    ≡ folder_paired l.folder l.answers
