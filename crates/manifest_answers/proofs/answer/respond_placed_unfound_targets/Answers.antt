use Rattle.manifest_answers.proofs.answer.respond_placed_unfound_targets.Goals as goal

pub returns : goal.returns
returns c = record {
  made = c.placed_unfound_targets-unfound.result;
  report = c.outcome-report.result;
  is_made = c.placed_unfound_targets-unfound.ensures;
  outcome = c.outcome-report.ensures;
  returned = c.write_answer.ensures;
}
