-- What an error says of a value that was refused.
use Rattle.manifest_schema.specs.Prelude.{error_kind, Faults}
use Rattle.std.specs.Prelude.{◌≡◌, string_bytes}
use Rattle.manifest_fault.specs.Faults.{IsOneOf, path_of}
use Rattle.manifest_fault.specs.declared.fault.ReadFault.{ReadFault}
use Rattle.manifest_fault.specs.declared.fault.ReadFault.TheVariants as read
use Rattle.manifest_fault.specs.declared.error.Error.{Error}
use Rattle.manifest_fault.specs.declared.error.Error.TheVariants.{Parse, Io, Utf8, Other, Memory}
use Rattle.manifest_fault.specs.declared.error.ParseFault.TheVariants.{Toml, Schema}

-- the error is one of these faults of the schema, or out of memory
abbrev pub RefusedIn : Faults → Error → Type 0
RefusedIn F (Parse (Schema f)) = IsOneOf F f
RefusedIn F (Memory e) = Unit {0}
RefusedIn F _ = ⊥

-- the error is a fault of the schema
abbrev pub IsSchemaError : Error → Type 0
IsSchemaError (Parse (Schema f)) = Unit {0}
IsSchemaError _ = ⊥

-- out of memory
abbrev pub IsOutOfMemory : Error → Type 0
IsOutOfMemory (Memory e) = Unit {0}
IsOutOfMemory _ = ⊥

-- the error of a reader's refusal
abbrev pub IsRefusal : ReadFault → Error → Type 0
IsRefusal (read.Schema f) e = e ≡ Parse (Schema f)
IsRefusal (read.Memory m) e = e ≡ Memory m

-- two errors say the same: one answer with the same fault of `toml`, path and cause, I/O kind, fault of UTF-8, or text
abbrev pub SameError : Error → Error → Type 0
SameError (Parse (Toml e)) (Parse (Toml f)) = e.value ≡ f.value
SameError (Parse (Schema e)) (Parse (Schema f)) =
    (path_of e.path ≡ path_of f.path) × (e.cause ≡ f.cause)
SameError (Io e) (Io f) = error_kind e ≡ error_kind f
SameError (Utf8 e) (Utf8 f) = e ≡ f
SameError (Other s) (Other t) = string_bytes s ≡ string_bytes t
SameError (Memory e) (Memory f) = e ≡ f
SameError _ _ = ⊥
