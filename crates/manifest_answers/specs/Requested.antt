-- What a request asks for, by its numbers, and what its answer is.
use Rattle.std.specs.Prelude.{ℕ, ◌==◌, List, Option, Some, None, if◌then◌else◌}
use Rattle.manifest_answers.specs.declared.reading.Input.{Input}
use Rattle.manifest_answers.specs.declared.reading.Input.TheVariants.{Toml, Tagged}
use Rattle.manifest_answers.specs.declared.making.Output.{Output}
use Rattle.manifest_answers.specs.declared.making.Output.TheVariants.{CanonicalText, TaggedTable}
use Rattle.manifest_answers.specs.declared.answer.Answer.{Answer}
use Rattle.manifest_answers.specs.declared.answer.Request.{Request}
use Rattle.manifest_answers.specs.Made.{Makes, RefusesToMake}
use Rattle.manifest_answers.specs.Answered.{Answers}

-- 0: a text; each other number: tagged bytes
abbrev pub input_of : ℕ → Input
input_of n = if n == 0 then Toml else Tagged

-- 0: the canonical text; each other number: the table as tagged bytes
abbrev pub output_of : ℕ → Output
output_of n = if n == 0 then CanonicalText else TaggedTable

-- what is passed in, unless the number is 0
abbrev pub given_if : {A : Type 0} → ℕ → A → Option A
given_if n x = if n == 0 then None else Some x

-- THE ANSWER: of a call that makes such manifests, and is asked for this
abbrev pub AnswersRequest : Request → List ℕ → List ℕ → Answer → Type 0
AnswersRequest r =
    let root = given_if r.has_root r.root.now in
    let folders = given_if r.has_folders r.folders.now in
    Answers (output_of r.output) r.most (Makes r.most (input_of r.input) r.bytes.now root folders)
    (RefusesToMake r.most (input_of r.input) r.bytes.now root folders)
