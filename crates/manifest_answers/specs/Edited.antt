-- Edits that a caller passes in, the text that they make, and what they replace in it.
use Rattle.manifest_schema.specs.Prelude.{Data, integer, string, array, Text}
use Rattle.std.specs.Prelude.{◌≡◌, ◌⊎◌, ℕ, ◌==◌, Bool, true, false, not, List, [], ◌∷◌, map, if◌then◌else◌, Option, Some, None, IsUtf8}
use Rattle.std.specs.List.{AllByRecursion}
use Rattle.toml.specs.View.{items_of}
use Rattle.manifest_bytes.specs.Encoded.{encoded}
use Rattle.manifest_places.specs.Paths.{Step, Path, key, index, document}
use Rattle.manifest_places.specs.Splices.{Splice}
use Rattle.manifest_places.specs.Edits.{Edit, set_value, insert_value, remove_value, rename_key, IsEdit, IsReason}
use Rattle.manifest_places.specs.declared.edits.EditError.{EditError}
use Rattle.manifest_places.specs.declared.edits.EditError.TheVariants as edit
use Rattle.manifest_answers.specs.declared.editing.GivenStep.{GivenStep}
use Rattle.manifest_answers.specs.declared.editing.GivenEdit.{GivenEdit}
use Rattle.manifest_answers.specs.declared.refusal.Refusal.{Refusal}
use Rattle.manifest_answers.specs.declared.refusal.Refusal.TheVariants.{Bytes, Edits, NotText}
use Rattle.manifest_answers.specs.Read.{IsNoDocument}
use Rattle.manifest_answers.specs.Inspected.{triple_data, index_number}
use Rattle.manifest_answers.specs.Made.{Refusals, IsOutOfMemory, OfBytes, AreWithin, RefusesTagged}

-- A STEP: an index, or else a key
abbrev pub given_step : GivenStep → Step
given_step s = if s.is_index == 0 then key s.key.now else index s.index

abbrev pub given_path : List GivenStep → Path
given_path steps = map given_step steps

-- AN EDIT by its number: 0 sets a value, 1 inserts one, 2 removes what is there, and each other gives it a key
abbrev pub given_edit : GivenEdit → Edit
given_edit e =
    if e.kind == 0 then set_value (given_path e.path.now) e.text.now
    else if e.kind == 1 then insert_value (given_path e.path.now) e.text.now
    else if e.kind == 2 then remove_value (given_path e.path.now)
    else rename_key (given_path e.path.now) e.text.now

-- keys and texts of edits are UTF-8
abbrev pub IsStepText : GivenStep → Type 0
IsStepText s = IsUtf8 s.key.now

abbrev pub ArePathTexts : List GivenStep → Type 0
ArePathTexts steps = AllByRecursion IsStepText steps

abbrev pub IsEditText : GivenEdit → Type 0
IsEditText e = ArePathTexts e.path.now × IsUtf8 e.text.now

abbrev pub AreEditTexts : List GivenEdit → Type 0
AreEditTexts es = AllByRecursion IsEditText es

-- they are not, or memory ran out
abbrev pub RefusesUnlessText : Type 0 → Refusals
RefusesUnlessText P NotText = ¬ P
RefusesUnlessText P e = IsOutOfMemory e

-- THE TEXT IS EDITED: the new one is made by these edits, and by these replacements
abbrev pub AreEdited : Text → List GivenEdit → List Splice → Text → Type 0
AreEdited bytes given replaced new =
    IsUtf8 bytes × IsEdit bytes (map given_edit given) replaced new

-- why the edits are not made: of what is no document it is why it is not one
abbrev pub IsNotEdited : Text → EditError → Refusal → Type 0
IsNotEdited bytes edit.NotADocument e =
    OfBytes (IsNoDocument bytes) e ⊎ (e ≡ Edits edit.NotADocument)
IsNotEdited bytes edit.Memory e = IsOutOfMemory e
IsNotEdited bytes error e = e ≡ Edits error

abbrev pub RefusesEdits : Text → List GivenEdit → Refusals
RefusesEdits bytes given e =
    RefusesUnlessText (AreEditTexts given) e ⊎ OfBytes (IsNoDocument bytes) e
    ⊎ ((error : EditError) × IsReason bytes (map given_edit given) error
    × IsNotEdited bytes error e)

-- WHAT IS REPLACED: where it begins, where it ends, and the text that takes its place
abbrev pub splice_data : Splice → Data
splice_data s =
    triple_data (integer (index_number s.from)) (integer (index_number s.to)) (string s.put)

abbrev pub splices_data : List Splice → Data
splices_data splices = array (items_of (map splice_data splices))

-- what is asked for by a number: 0 for the text, and each other for what is replaced
abbrev pub wants_replacements : ℕ → Bool
wants_replacements n = not (n == 0)

-- the new text, or the tagged bytes of what is replaced
abbrev pub edited_output : Bool → List Splice → Text → Text
edited_output true replaced new = encoded (splices_data replaced)
edited_output false replaced new = new

abbrev pub GivesEdited : ℕ → Bool → Text → List GivenEdit → Text → Type 0
GivesEdited most as_replacements bytes given text =
    (replaced : List Splice) × (new : Text) × AreEdited bytes given replaced new
    × AreWithin most (edited_output as_replacements replaced new) text

abbrev pub RefusesToEdit : ℕ → Bool → Text → List GivenEdit → Refusals
RefusesToEdit most as_replacements bytes given e =
    RefusesEdits bytes given e
    ⊎ ((replaced : List Splice) × (new : Text) × AreEdited bytes given replaced new
    × RefusesTagged most (edited_output as_replacements replaced new) e)
