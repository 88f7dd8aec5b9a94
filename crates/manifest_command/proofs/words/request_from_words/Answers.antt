use Rattle.std.proofs.Common.{rules, ◌≡◌, [], ◌∷◌}
use Rattle.manifest_command.proofs.Elements.{four_elements}
use Rattle.manifest_command.proofs.Served.{four_taken}
use Rattle.manifest_command.proofs.words.request_from_words.Goals as goal

pub returns-in-len4 : goal.returns-in-len4
returns-in-len4 c =
    let four : c.args.words.now ≡ c.verb-item-then-words-lt5.result ∷ c.file-item-then-words-lt5.result
    ∷ c.option-item.result ∷ c.root-item.result ∷ [] =
    four_elements c.args.words.now _ _ _ _ c.in-len4.len_at_least c.in-len4.len_below c.verb-item-then-words-lt5.is
    c.file-item-then-words-lt5.is c.option-item.is c.root-item.is in
    rw four (four_taken _ _ _ _ _ (search rules))
