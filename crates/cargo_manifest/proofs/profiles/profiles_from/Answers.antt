use Rattle.std.proofs.Common.{rules}
use Rattle.manifest_value.specs.Sources.{members_of}
use Rattle.cargo_manifest.proofs.ProfileLemmas.{named_first, custom_first}
use Rattle.cargo_manifest.proofs.profiles.profiles_from.Goals as goal

pub returns-in-Err : goal.returns-in-Err
returns-in-Err c =
    custom_first (members_of c.args.table) _ _ c.in_ok-x.ensures.gives.1 c.in_ok-x.ensures.clean c.in-Err.ensures

pub returns-in_err-x : goal.returns-in_err-x
returns-in_err-x c =
    let whole = named_first (members_of c.args.table) c.in_err-x.field-0.0 c.in_err-x.ensures.gives in
    search rules
