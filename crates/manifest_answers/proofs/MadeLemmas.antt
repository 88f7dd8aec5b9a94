-- Each manifest that is made is well-formed, so the tagged bytes of its table hold it. Each call ends by writing it.
use Rattle.manifest_schema.specs.Prelude.{Text, Manifest, good_some, form, workspace_rows, well_formed, raw, raw_metadata}
use Rattle.std.proofs.Common.{◌≡◌, ℕ, List, Option, Some, None, Vec, Global, Result, Ok, Err, IfOk, inl, inr, ap, sym, subst, ◌∙◌}
use Rattle.std.specs.Prelude.{IfErr}
use Rattle.manifest_bytes.specs.Decoded.{decoded}
use Rattle.manifest_bytes.specs.Laws.{IsFloatless}
use Rattle.manifest_bytes.proofs.FloatLemmas.{tree_floatless, table_is_decoded}
use Rattle.manifest_schema.proofs.Values.KindLaws.{raw_sound, tree_sound}
use Rattle.manifest_schema.proofs.Forms.ManifestLaws.{manifest_sound}
use Rattle.manifest_schema.proofs.Meaning.MeaningLaws.{accepted_is_well_formed}
use Rattle.manifest_completion.specs.Listings.{Answer as Listed}
use Rattle.manifest_completion.specs.Stored.{stored_map}
use Rattle.manifest_completion.proofs.CompletedLaws.{completed_fixed}
use Rattle.cargo_manifest.proofs.WellFormedLaws.{package_by_metadata, workspace_by_parts, manifest_by_parts}
use Rattle.manifest_inherit.specs.Finished.{Inherits}
use Rattle.manifest_inherit.proofs.FormedLaws.{stays_well_formed}
use Rattle.manifest_answers.specs.declared.folders.Folder.{Folder}
use Rattle.manifest_answers.specs.declared.reading.Input.{Input}
use Rattle.manifest_answers.specs.declared.reading.Input.TheVariants.{Toml, Tagged}
use Rattle.manifest_answers.specs.declared.making.Output.{Output}
use Rattle.manifest_answers.specs.declared.making.Output.TheVariants.{CanonicalText, TaggedTable}
use Rattle.manifest_answers.specs.declared.refusal.Refusal.{Refusal}
use Rattle.manifest_answers.specs.Read.{Are}
use Rattle.manifest_answers.specs.Made.{CompletesStored, IsRoot, Makes, Refusals, Writes, Holds, Gives, RefusesOutput, OrOutput, IsMade}

abbrev IsFormed : Manifest → Type 0
IsFormed m = well_formed raw_metadata raw_metadata m

abbrev AreFormed : Option Manifest → Type 0
AreFormed None = Unit {0}
AreFormed (Some m) = IsFormed m

-- WHAT IS READ is well-formed
read_formed : (input : Input) (bytes : List ℕ) (m : Manifest) → Are input bytes m → IsFormed m
read_formed Toml bytes m is =
    let raw_tree = tree_sound raw_sound in
    (accepted_is_well_formed raw_tree raw_tree is.document m is.meant).0
read_formed Tagged bytes m is =
    let raw_tree = tree_sound raw_sound in
    (manifest_sound raw_metadata raw_metadata raw_tree raw_tree).well is.value m is.read

root_formed : (input : Input) (bytes : Option (List ℕ)) (root : Option Manifest) → IsRoot input bytes root
    → AreFormed root
root_formed input None None is = tt
root_formed input None (Some r) is = absurd is
root_formed input (Some b) None is = absurd is
root_formed input (Some b) (Some r) is = read_formed input b r is

-- EACH STEP keeps it so
inherits_formed : (root : Option Manifest) (m n : Manifest) → AreFormed root → IsFormed m → Inherits root m n
    → IsFormed n
inherits_formed None m n root formed same = subst IsFormed (sym same) formed
inherits_formed (Some r) m n root formed (w, has, resolves) =
    let by_manifest = manifest_by_parts raw_metadata raw_metadata in
    let lends = subst (good_some (form (workspace_rows raw_metadata))) has ((by_manifest r).0 root).1 in
    stays_well_formed raw_metadata raw_metadata raw_metadata (package_by_metadata raw_metadata)
    (workspace_by_parts raw_metadata) by_manifest m n w formed lends resolves

completes_formed : (stored : Option (Text → Listed)) (m n : Manifest) → IsFormed m → CompletesStored stored m n
    → IsFormed n
completes_formed None m n formed same = subst IsFormed (sym same) formed
completes_formed (Some s) m n formed becomes =
    let raw_tree = tree_sound raw_sound in
    (completed_fixed raw_metadata raw_metadata raw_tree raw_tree m n (stored_map s) formed becomes).formed

made_formed : (most : ℕ) (input : Input) (bytes : List ℕ) (root : Option (List ℕ)) (folders : Option (List Folder))
    (m : Manifest) → Makes most input bytes root folders m → IsFormed m
made_formed most input bytes root folders m (listings, (n, is, (r, is_root, (within, (o, inherits, completes))))) =
    completes_formed _ o m (inherits_formed r n o (root_formed input root r is_root) (read_formed input bytes n is)
    inherits) completes

-- THE LAST STEP
-- metadata that is kept is written without floats
raw_is_floatless : IsFloatless raw_metadata
raw_is_floatless = tree_floatless raw (λ x g. g)

held : (output : Output) (most : ℕ) (m : Manifest) (text : Text) → IsFormed m → Writes output most m text
    → Holds output m text
held CanonicalText most m text g written = tt
held TaggedTable most m text g written = ap decoded written.0 ∙ table_is_decoded raw_metadata raw_metadata
    raw_is_floatless raw_is_floatless m g

given_of : (output : Output) (most : ℕ) (makes : Manifest → Type 0) (refuses : Refusals) (m : Manifest)
    (r : Result (Vec ℕ Global) Refusal) → makes m → IsFormed m
    → IsMade (Writes output most m) (RefusesOutput output most m) r → IsMade (Gives output most makes)
    (OrOutput output most makes refuses) r
given_of output most makes refuses m (Ok v) is g h = (m, is, h, held output most m v.items g h)
given_of output most makes refuses m (Err e) is g h = inr (m, is, h)

-- of what was made, or why nothing was, comes what a call gives, or one of its refusals
pub finished : {X : Type 0} (content : X → Manifest) (output : Output) (most : ℕ) (input : Input) (bytes : List ℕ)
    (root : Option (List ℕ)) (folders : Option (List Folder)) (refuses : Refusals) (made : Result X Refusal)
    (r : Result (Vec ℕ Global) Refusal)
    → IfOk made (λ x. Makes most input bytes root folders (content x)) → IfErr made refuses
    → IfOk made (λ x. IsMade (Writes output most (content x)) (RefusesOutput output most (content x)) r)
    → IfErr made (λ e. r ≡ Err e)
    → IsMade (Gives output most (Makes most input bytes root folders))
    (OrOutput output most (Makes most input bytes root folders) refuses) r
finished content output most input bytes root folders refuses (Ok x) r is refused writes _ =
    given_of output most (Makes most input bytes root folders) refuses (content x) r is (made_formed most input bytes
    root folders (content x) is) writes
finished content output most input bytes root folders refuses (Err e) r is refused writes same =
    subst (IsMade (Gives output most (Makes most input bytes root folders))
    (OrOutput output most (Makes most input bytes root folders) refuses)) (sym same) (inl refused)
