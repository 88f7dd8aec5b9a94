use Rattle.manifest_answers.proofs.answer.respond_placed_refusals.Goals as goal

pub returns : goal.returns
returns c = record {
  made = c.placed_refusals-refusals.result;
  report = c.outcome-report.result;
  is_made = c.placed_refusals-refusals.ensures;
  outcome = c.outcome-report.ensures;
  returned = c.write_answer.ensures;
}
