use Rattle.std.proofs.Common.{string_bytes, ◌≡◌, ◌++◌}
use Rattle.manifest_page.specs.Page.{harmless}
use Rattle.manifest_page.proofs.page.push_data.Given as goal

abbrev pub invariant-loop-c : goal.invariant-loop-c
invariant-loop-c l = string_bytes l.out ++ harmless l.c-iterator.rest.now ≡ string_bytes l.initial.out ++ harmless l.json
