-- What is found in the table of a document, as a value and as its tagged bytes: a tree in which each step stands once.
use Rattle.manifest_schema.specs.Prelude.{Data, Members, string, integer, array, no_items, item, Text, Step, key, index, Cause, not_a_choice, manifest_findings}
use Rattle.std.specs.Prelude.{◌≡◌, ◌⊎◌, ℕ, ℤ, pos, min, List, map, string_bytes}
use Rattle.toml.specs.View.{items_of}
use Rattle.manifest_bytes.specs.Encoded.{encoded}
use Rattle.manifest_fault.specs.Faults.{step_of, cause_of}
use Rattle.manifest_fault.specs.Found.{choices_of, found_among}
use Rattle.manifest_fault.specs.declared.findings.FindingNode.{FindingNode, fold-FindingNode}
use Rattle.manifest_fault.specs.declared.findings.FindingNode.TheOpen.{FindingNode-F}
use Rattle.manifest_fault.specs.declared.schema_findings.Finding.{Finding}
use Rattle.manifest_fault.specs.declared.schema_findings.Finding.TheVariants.{Fault, Ignored, Unused}
use Rattle.manifest_answers.specs.Report.{cause_number}
use Rattle.manifest_answers.specs.Read.{IsDocument, IsNoDocument}
use Rattle.manifest_answers.specs.Unread.{no_metadata}
use Rattle.manifest_answers.specs.Made.{Refusals, IsOutOfMemory, OfBytes, AreWithin, RefusesTagged}

-- arrays of two and of three values
abbrev pub pair_data : Data → Data → Data
pair_data a b = array (item a (item b no_items))

abbrev pub triple_data : Data → Data → Data → Data
triple_data a b c = array (item a (item b (item c no_items)))

-- AN INDEX as a whole number: itself, or the largest one that a value can be
abbrev pub index_number : ℕ → ℤ
index_number i = pos (min i 9223372036854775807)

-- A STEP: the text of a key, or the number of an index
abbrev pub step_data : Step → Data
step_data (key k) = string k
step_data (index i) = integer (index_number i)

-- THE WORDS of a choice: the array of their texts
abbrev pub words_data : List Text → Data
words_data words = array (items_of (map string words))

-- A CAUSE: after the number of what is found its own, and of a choice the words that there are
abbrev pub cause_data : ℕ → Cause → List Text → Data
cause_data what not_a_choice words =
    triple_data (integer (pos what)) (integer (pos (cause_number not_a_choice))) (words_data words)
cause_data what c words = pair_data (integer (pos what)) (integer (pos (cause_number c)))

-- A FINDING: 0 is a fault, 1 is ignored, 2 is a key that nothing reads
abbrev pub finding_data : Finding → Data
finding_data (Fault c words) = cause_data 0 (cause_of c) (choices_of words)
finding_data (Ignored c words) = cause_data 1 (cause_of c) (choices_of words)
finding_data (Unused k) = pair_data (integer (pos 2)) (string (string_bytes k))

-- A NODE: what is found, by the data that it is, or by 3 what is found in the value of a step
abbrev pub node_data_step : {C : Type 0} → (C → Data) → FindingNode-F C Data → Data
node_data_step data_of (FindingNode-F.Here c) = data_of c
node_data_step data_of (FindingNode-F.Within s inside) =
    triple_data (integer (pos 3)) (step_data (step_of s)) (array (items_of inside.items))

abbrev pub node_data : {C : Type 0} → (C → Data) → FindingNode C → Data
node_data {C} data_of = fold-FindingNode C Data (node_data_step data_of)

-- NODES: the array of them, in their order
abbrev pub nodes_data : {C : Type 0} → (C → Data) → List (FindingNode C) → Data
nodes_data data_of nodes = array (items_of (map (node_data data_of) nodes))

-- the nodes say all that is found in the table of a document, whose metadata is not looked at, and no more
abbrev pub SayAllFound : Members → List (FindingNode Finding) → Type 0
SayAllFound document nodes =
    found_among nodes ≡ manifest_findings no_metadata no_metadata document

-- THE TEXT is the tagged bytes of nodes that say all that is found in the table
abbrev pub GivesFound : ℕ → Members → Text → Type 0
GivesFound most document text =
    (nodes : List (FindingNode Finding)) × SayAllFound document nodes
    × AreWithin most (encoded (nodes_data finding_data nodes)) text

-- memory ran out, or the tagged bytes of such nodes are refused as they are made
abbrev pub RefusesFound : ℕ → Members → Refusals
RefusesFound most document e =
    IsOutOfMemory e
    ⊎ ((nodes : List (FindingNode Finding)) × SayAllFound document nodes
    × RefusesTagged most (encoded (nodes_data finding_data nodes)) e)

-- THE TEXT says what is found in the table that the bytes are
abbrev pub GivesFindings : ℕ → List ℕ → Text → Type 0
GivesFindings most bytes text =
    (document : Members) × IsDocument bytes document × GivesFound most document text

-- the bytes are refused as they are read, or the tagged bytes as they are made
abbrev pub RefusesFindings : ℕ → List ℕ → Refusals
RefusesFindings most bytes e =
    OfBytes (IsNoDocument bytes) e
    ⊎ ((document : Members) × IsDocument bytes document × RefusesFound most document e)
