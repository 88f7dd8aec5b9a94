use Rattle.std.proofs.Common.{◌≡◌, ◌↔◌, length, drop, map}
use Rattle.toml_parser.specs.Reading.{path_view}
use Rattle.manifest_places.specs.Paths.{path_of, key}
use Rattle.manifest_places.proofs.keys.are_steps.Given as goal

abbrev pub invariant-loop-i : goal.invariant-loop-i
invariant-loop-i l =
    (length l.steps ≡ length l.parts)
    × ((path_of (drop l.i l.steps) ≡ map key (path_view (drop l.i l.parts))) ↔ (path_of l.steps ≡ map key (path_view l.parts)))
