use Rattle.manifest_answers.proofs.answer.respond_positions.Goals as goal

pub returns : goal.returns
returns c = record {
  made = c.positions-found.result;
  report = c.outcome-report.result;
  is_made = c.positions-found.ensures;
  outcome = c.outcome-report.ensures;
  returned = c.write_answer.ensures;
}
