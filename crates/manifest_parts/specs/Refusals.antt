-- What an error says of a value that is no strip setting.
use Rattle.manifest_schema.specs.Prelude.{Data, string, strip_meaning}
use Rattle.std.specs.Prelude.{◌≡◌, ◌++◌, None, codes, string_bytes}
use Rattle.manifest_fault.specs.declared.error.Error.{Error}
use Rattle.manifest_fault.specs.declared.error.Error.TheVariants.{Other, Memory}

-- the value is no strip setting, and the text says so
abbrev pub RefusesStrip : Data → Error → Type 0
RefusesStrip (string s) (Other t) =
    (strip_meaning (string s) ≡ None)
    × (string_bytes t ≡ codes "'" ++ s ++ codes "' is not a valid value for 'strip'")
RefusesStrip d (Other t) =
    (strip_meaning d ≡ None) × (string_bytes t ≡ codes "wrong data type for strip setting")
RefusesStrip d (Memory e) = Unit {0}
RefusesStrip d _ = ⊥
