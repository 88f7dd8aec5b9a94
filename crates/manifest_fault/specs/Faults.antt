-- Key paths, causes and faults of the code, as the definitions see them.
use Rattle.manifest_schema.specs.Prelude.{Data, array, table, Path, Step as PathStep, key, index, Cause as SchemaCause, wrong_kind, missing, two_spellings, not_a_choice, out_of_range, not_true, holds_float, metadata_fault, Faults, no_fault, at_value}
use Rattle.std.specs.Prelude.{◌≡◌, ◌∷◌, map, string_bytes}
use Rattle.manifest_fault.specs.declared.fault.Step.{Step}
use Rattle.manifest_fault.specs.declared.fault.Step.TheVariants.{Key, Index}
use Rattle.manifest_fault.specs.declared.fault.KeyPath.{KeyPath}
use Rattle.manifest_fault.specs.declared.fault.Cause.{Cause}
use Rattle.manifest_fault.specs.declared.fault.Cause.TheVariants.{WrongKind, Missing, TwoSpellings, NotAChoice, OutOfRange, NotTrue, HoldsFloat, Metadata}
use Rattle.manifest_fault.specs.declared.fault.SchemaFault.{SchemaFault}
use Rattle.manifest_fault.specs.declared.fault.ReadFault.{ReadFault}
use Rattle.manifest_fault.specs.declared.fault.ReadFault.TheVariants.{Schema, Memory}

abbrev pub step_of : Step → PathStep
step_of (Key s) = key (string_bytes s)
step_of (Index i) = index i

abbrev pub path_of : KeyPath → Path
path_of p = map step_of p.steps.items

abbrev pub cause_of : Cause → SchemaCause
cause_of WrongKind = wrong_kind
cause_of Missing = missing
cause_of TwoSpellings = two_spellings
cause_of NotAChoice = not_a_choice
cause_of OutOfRange = out_of_range
cause_of NotTrue = not_true
cause_of HoldsFloat = holds_float
cause_of Metadata = metadata_fault

-- the fault is one of these
abbrev pub IsOneOf : Faults → SchemaFault → Type 0
IsOneOf F f = F (path_of f.path) (cause_of f.cause)

-- the fault, where it is one of the schema and not out of memory, is one of these
abbrev pub FaultIn : Faults → ReadFault → Type 0
FaultIn F (Schema f) = IsOneOf F f
FaultIn F (Memory e) = Unit {0}

-- the fault is one of the schema
abbrev pub IsSchema : ReadFault → Type 0
IsSchema (Schema f) = Unit {0}
IsSchema (Memory e) = ⊥

-- the fault is f with one step before its path, or out of memory
abbrev pub IsUnder : PathStep → ReadFault → ReadFault → Type 0
IsUnder s (Memory e) g = FaultIn no_fault g
IsUnder s (Schema f) g = FaultIn (λ p c. (p ≡ s ∷ path_of f.path) × (c ≡ cause_of f.cause)) g

-- a value that is no list has the wrong kind
abbrev pub no_list : Data → Faults
no_list (array ds) p c = ⊥
no_list _ p c = at_value wrong_kind p c

-- a value that is no table has the wrong kind
abbrev pub no_table : Data → Faults
no_table (table ms) p c = ⊥
no_table _ p c = at_value wrong_kind p c
