use Rattle.std.proofs.Common.{take}
use Rattle.std.specs.List.{AllByRecursion}
use Rattle.manifest_answers.specs.Checked.{IsPackageText}
use Rattle.manifest_answers.proofs.around.packages_given.Given as goal

-- the paths and names so far are texts
abbrev pub invariant-loop-package : goal.invariant-loop-package
invariant-loop-package l = AllByRecursion IsPackageText (take l.package-index l.given)
