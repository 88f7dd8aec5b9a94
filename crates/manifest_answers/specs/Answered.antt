-- What a call leaves: an answer, and a text in the caller's memory.
use Rattle.manifest_schema.specs.Prelude.{Global, Text, Manifest}
use Rattle.std.specs.Prelude.{◌≡◌, ◌⊎◌, ℕ, ◌<◌, ◌≤◌, ◌++◌, List, length, drop, Vec, Result, Ok, Err, IsUtf8}
use Rattle.manifest_answers.specs.declared.making.Output.{Output}
use Rattle.manifest_answers.specs.declared.refusal.Refusal.{Refusal}
use Rattle.manifest_answers.specs.declared.reporting.Report.{Report}
use Rattle.manifest_answers.specs.declared.answer.Answer.{Answer}
use Rattle.manifest_answers.specs.Report.{IsReport, ReportsMemory, Reports}
use Rattle.manifest_answers.specs.Made.{Gives, Refusals, OrOutput, IsMade}

-- the text stands at the beginning where there is room for it, and the rest is as it was; else all is as it was
pub record IsCopiedOut (text : List ℕ) (size : ℕ) (old new : List ℕ) : Type 0 where
  pub counted : size ≡ length text
  pub put : length text ≤ length old → new ≡ text ++ drop (length text) old
  pub kept : length old < length text → new ≡ old

-- the answer has these numbers, and this text is written
pub record Returns (report : Report) (old new : List ℕ) (a : Answer) : Type 0 where
  pub status : a.status ≡ report.status
  pub cause : a.cause ≡ report.cause
  pub start : a.start ≡ report.start
  pub end : a.end ≡ report.end
  pub copied : IsCopiedOut report.text.items a.length old new

-- what is reported: status 0 with the text, or the refusal, whose text is UTF-8; or out of memory while reporting it
abbrev pub Outcome : Result (Vec ℕ Global) Refusal → Report → Type 0
-- ACCEPTED: nothing is refused; the text is what was asked for
Outcome (Ok v) t = IsReport t 0 0 v.items
Outcome (Err r) t = (ReportsMemory t ⊎ Reports r t) × IsUtf8 t.text.items

-- THE ANSWER of a call that gives one of these texts, or has one of these refusals
pub record IsAnswered (gives : Text → Type 0) (refuses : Refusals) (old new : List ℕ) (a : Answer)
    : Type 0 where
  pub made : Result (Vec ℕ Global) Refusal
  pub report : Report
  pub is_made : IsMade gives refuses made
  pub outcome : Outcome made report
  pub returned : Returns report old new a

-- the answer of a call that makes these manifests or has these refusals, and is asked for this within a bound in bytes
abbrev pub Answers : Output → ℕ → (Manifest → Type 0) → Refusals → List ℕ → List ℕ → Answer → Type 0
Answers output most makes refuses =
    IsAnswered (Gives output most makes) (OrOutput output most makes refuses)
