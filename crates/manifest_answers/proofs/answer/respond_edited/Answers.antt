use Rattle.manifest_answers.proofs.answer.respond_edited.Goals as goal

pub returns : goal.returns
returns c = record {
  made = c.edited_bytes-edited.result;
  report = c.outcome-report.result;
  is_made = c.edited_bytes-edited.ensures;
  outcome = c.outcome-report.ensures;
  returned = c.write_answer.ensures;
}
