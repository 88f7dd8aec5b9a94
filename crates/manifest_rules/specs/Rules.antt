-- Which level a code has.
use Rattle.manifest_rules.specs.declared.codes.Code.{Code}
use Rattle.manifest_rules.specs.declared.codes.Level.{Level}
use Rattle.manifest_rules.specs.declared.look.Edition.{Edition}
use Rattle.manifest_rules.specs.declared.look.Edition.TheVariants.{E2015, E2018, E2021, E2024}

-- THE LEVEL of a code in a package of an edition: from 2024 on it may be another
abbrev pub level_in : Edition → Code → Level
level_in E2024 c = c.in_2024
level_in E2021 c = c.level
level_in E2018 c = c.level
level_in E2015 c = c.level
