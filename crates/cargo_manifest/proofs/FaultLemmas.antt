-- A fault that stands in a document, reported as an error.
use Rattle.manifest_schema.specs.Prelude.{Data, Members, Kind, IsSound, foremost, manifest_faults}
use Rattle.std.proofs.Common.{◌≡◌, ℕ, List, Some}
use Rattle.toml.specs.Parse.{parse_document}
use Rattle.manifest_schema.proofs.Findings.FoundLaws.{faulty_means_nothing}
use Rattle.manifest_fault.specs.Faults.{FaultIn, path_of, cause_of}
use Rattle.manifest_fault.specs.declared.fault.ReadFault.{ReadFault}
use Rattle.manifest_fault.specs.declared.fault.ReadFault.TheVariants as read
use Rattle.manifest_fault.specs.Refusals.{IsRefusal}
use Rattle.manifest_fault.specs.declared.error.Error.{Error}
use Rattle.manifest_fault.specs.declared.error.Error.TheVariants.{Parse, Memory}
use Rattle.manifest_fault.specs.declared.error.ParseFault.TheVariants.{Schema}
use Rattle.manifest_value.proofs.FoundLemmas.{foremost_among}
use Rattle.cargo_manifest.specs.Answers.{RefusesTable, RefusesText}

pub refuses_table : {K W : Kind Data} (k : IsSound K) (w : IsSound W) (ms : Members) (f : ReadFault) (e : Error)
    → FaultIn (foremost (manifest_faults K W ms)) f → IsRefusal f e → RefusesTable K W ms e
refuses_table {K = K} {W = W} k w ms (read.Schema f) e h is =
    let one = foremost_among (manifest_faults K W ms) (path_of f.path) (cause_of f.cause) h in
    rw is (record { stands = h; nothing = λ m. faulty_means_nothing k w ms (path_of f.path) (cause_of f.cause) m one })
refuses_table k w ms (read.Memory r) e h is = rw is tt

pub refuses_text : (K W : Kind Data) (text : List ℕ) (ms : Members) (e : Error)
    → parse_document text ≡ Some ms → RefusesTable K W ms e → RefusesText K W text e
refuses_text K W text ms (Parse (Schema f)) parsed h = record { document = ms; parsed = parsed; refused = h }
refuses_text K W text ms (Memory e) parsed h = tt
refuses_text K W text ms _ parsed h = absurd h
