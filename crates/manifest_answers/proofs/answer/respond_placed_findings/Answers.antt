use Rattle.manifest_answers.proofs.answer.respond_placed_findings.Goals as goal

pub returns : goal.returns
returns c = record {
  made = c.placed_findings-findings.result;
  report = c.outcome-report.result;
  is_made = c.placed_findings-findings.ensures;
  outcome = c.outcome-report.ensures;
  returned = c.write_answer.ensures;
}
