use Rattle.std.proofs.Common.{◌≡◌, ◌+◌, map, drop, string_bytes}
use Rattle.manifest_inherit.specs.Sizes.{texts_size}
use Rattle.manifest_inherit.proofs.sizes.less_texts.Given as goal

-- what is left and all texts are what there was and the texts that are to come
abbrev pub invariant-loop-text : goal.invariant-loop-text
invariant-loop-text l =
    l.left + texts_size (map string_bytes l.texts) ≡ l.most + texts_size (map string_bytes (drop l.text-index l.texts))
