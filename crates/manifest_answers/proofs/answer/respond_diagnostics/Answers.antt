use Rattle.manifest_answers.proofs.answer.respond_diagnostics.Goals as goal

pub returns : goal.returns
returns c = record {
  made = c.checked_bytes-checked.result;
  report = c.outcome-report.result;
  is_made = c.checked_bytes-checked.ensures;
  outcome = c.outcome-report.ensures;
  returned = c.write_answer.ensures;
}
