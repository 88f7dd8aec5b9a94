-- A path that is cut in two.
use Rattle.std.proofs.Common.{◌≡◌, ℕ, ◌++◌, List, take, drop, sym, ap, ◌∙◌, take-append-drop}
use Rattle.std.proofs.lemmas.List.{map-append}
use Rattle.manifest_places.specs.Paths.{path_of, step_of}
use Rattle.manifest_fault.specs.declared.fault.Step.{Step}

pub path_in_two : (path front rest : List Step) (n : ℕ) → front ≡ take n path → rest ≡ drop n path
    → path_of path ≡ path_of front ++ path_of rest
path_in_two path front rest n is_front is_rest =
    rw (is_front, is_rest) (ap path_of (sym (take-append-drop n path)) ∙ map-append step_of (take n path) (drop n path))
