-- Words for what the contracts of readers and writers say again and again.
use Rattle.manifest_schema.specs.Prelude.{BTreeMap, Global, Data, table, Members, table_view, Value, Text, Step, Spellings, first, Kind, Rows, form, first_found, found_under}
use Rattle.manifest_schema.specs.Findings.{Finding}
use Rattle.std.specs.Prelude.{◌≡◌, List, String, Result, Ok, Err}
use Rattle.manifest_fault.specs.Faults.{FaultIn}
use Rattle.manifest_fault.specs.Refusals.{RefusedIn}
use Rattle.manifest_fault.specs.declared.error.Error.{Error}
use Rattle.manifest_fault.specs.declared.fault.ReadFault.{ReadFault}

-- the data that a table is
abbrev pub data_of : BTreeMap (String Global) Value → Data
data_of t = table (table_view t)

-- what x holds, written as this kind
abbrev pub written_as : {X A : Type 0} → Kind A → (X → A) → X → Data
written_as K content x = K.written (content x)

-- what x holds is what this kind reads of the data
abbrev pub Reads : {X A : Type 0} → Kind A → (X → A) → Data → X → Type 0
Reads K content d x = K.reads d (content x)

-- what x holds is what this table means by these rows
abbrev pub IsOfTable : {X A : Type 0} → Rows A → (X → A) → Members → X → Type 0
IsOfTable rows content ms x = Reads (form rows) content (table ms) x

-- THE RESULT OF A READER
-- P of the answer, or the first of the faults that were found, or out of memory
abbrev pub GivesOr : {X : Type 0} → (X → Type 0) → List Finding → Result X ReadFault → Type 0
GivesOr P found (Ok x) = P x
GivesOr P found (Err f) = FaultIn (first_found found) f

-- the one reading of the data by this kind, or the first fault that is found, or out of memory
abbrev pub Gives : {X A : Type 0} → Kind A → (X → A) → Data → Result X ReadFault → Type 0
Gives K content d = GivesOr (Reads K content d) (K.findings d)

-- the same for data that this step leads to: the step stands before the path of the fault
abbrev pub GivesUnder :
    {X A : Type 0} → Step → Kind A → (X → A) → Data → Result X ReadFault → Type 0
GivesUnder s K content d = GivesOr (Reads K content d) (found_under s (K.findings d))

-- P, or the first fault that is found of a row, whose first spelling is this word, or out of memory
abbrev pub GivesRow :
    {X : Type 0} → Type 0 → (Spellings → List Finding) → Text → Result X ReadFault → Type 0
GivesRow P find word (Ok x) = P
GivesRow P find word (Err f) =
    (names : Spellings) → first names ≡ word → FaultIn (first_found (find names)) f

-- P of the answer of a public call, or the first of the faults that were found, or out of memory
abbrev pub AnswersOr : {X : Type 0} → (X → Type 0) → List Finding → Result X Error → Type 0
AnswersOr P found (Ok x) = P x
AnswersOr P found (Err e) = RefusedIn (first_found found) e

-- the answer of a public call: as Gives, and the refusal is an Error
abbrev pub Answers : {X A : Type 0} → Kind A → (X → A) → Data → Result X Error → Type 0
Answers K content d = AnswersOr (Reads K content d) (K.findings d)
