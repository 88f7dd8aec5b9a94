use Rattle.manifest_answers.proofs.TextLemmas.{string_is_utf8}
use Rattle.manifest_answers.proofs.making.text_of.Goals as goal

pub returns-in-Ok-Some : goal.returns-in-Ok-Some
returns-in-Ok-Some c =
    let made = rw c.in-Ok-Some.field-0-is at c.in-Ok-Some.ensures.text in
    rw c.into_bytes.ensures.value (
      record { document = made.document; reads_back = made.reads_back },
      string_is_utf8
          c.in-Ok-Some.text,
      made.within,
    )
