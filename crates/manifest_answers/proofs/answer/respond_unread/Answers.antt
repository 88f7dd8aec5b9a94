use Rattle.manifest_answers.proofs.answer.respond_unread.Goals as goal

pub returns : goal.returns
returns c = record {
  made = c.unread_table-table.result;
  report = c.outcome-report.result;
  is_made = c.unread_table-table.ensures;
  outcome = c.outcome-report.ensures;
  returned = c.write_answer.ensures;
}
