use Rattle.manifest_inherit.proofs.RefusalLaws.{each_refusal_is_listed, none_is_listed, each_is_listed_once}
use Rattle.manifest_inherit.proofs.laws.each_refusal_is_listed.Goals as goal

pub returns-clause-listed : goal.returns-clause-listed
returns-clause-listed c = each_refusal_is_listed

pub returns-clause-empty : goal.returns-clause-empty
returns-clause-empty c = none_is_listed

pub returns-clause-once : goal.returns-clause-once
returns-clause-once c = each_is_listed_once
