use Rattle.std.proofs.Common.{rules}
use Rattle.manifest_parts.proofs.strip.setting_of.Goals as goal

pub returns-in_ok-text-in_default-clause-refused :
    goal.returns-in_ok-text-in_default-clause-refused
returns-in_ok-text-in_default-clause-refused c = (search rules, c.in_ok-text-in_default.ensures.ok)
