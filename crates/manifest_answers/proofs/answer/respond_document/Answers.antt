use Rattle.manifest_answers.proofs.answer.respond_document.Goals as goal

pub returns : goal.returns
returns c = record {
  made = c.document_table-document.result;
  report = c.outcome-report.result;
  is_made = c.document_table-document.ensures;
  outcome = c.outcome-report.ensures;
  returned = c.write_answer.ensures;
}
