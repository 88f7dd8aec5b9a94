use Rattle.manifest_command.proofs.Served.{not_wrong, served_file, failed_file}
use Rattle.manifest_command.proofs.run.run.Goals as goal

pub returns-in-None-clause-file_status : goal.returns-in-None-clause-file_status
returns-in-None-clause-file_status g c = λ a q. absurd (c.in-None.ensures.1 a q)

pub returns-in-Ok-clause-wrong_words : goal.returns-in-Ok-clause-wrong_words
returns-in-Ok-clause-wrong_words g c = λ wrong. absurd (not_wrong _ _ c.in-Some.ensures wrong)

pub returns-in-Err-clause-wrong_words : goal.returns-in-Err-clause-wrong_words
returns-in-Err-clause-wrong_words g c = λ wrong. absurd (not_wrong _ _ c.in-Some.ensures wrong)

pub returns-in-Ok-clause-file_printed : goal.returns-in-Ok-clause-file_printed
returns-in-Ok-clause-file_printed g c = λ a asks zero. served_file _ a _ _ _ _ c.in-Some.ensures asks c.in-Ok.ensures.ok

pub returns-in-Err-clause-file_refused : goal.returns-in-Err-clause-file_refused
returns-in-Err-clause-file_refused g c = λ a asks one. failed_file _ a _ _ _ _ c.in-Some.ensures asks
    c.in-Err.ensures.refused
