use Rattle.std.proofs.Common.{ap, option_map, ◌∙◌}
use Rattle.toml.specs.View.{view}
use Rattle.manifest_places.specs.Changes.{set, with_change}
use Rattle.manifest_places.specs.Paths.{path_of}
use Rattle.manifest_places.specs.Places.{place_of}
use Rattle.manifest_places.proofs.RestoringLemmas.{nothing_read, one_read}
use Rattle.manifest_places.proofs.places.restored_at.Goals as goal

pub returns-in_default : goal.returns-in_default
returns-in_default c =
    nothing_read c.args.text.now c.args.number (place_of c.args.place.now) (view c.args.value)
    (option_map view c.in_ok-read.field-0) c.in_ok-read.ensures (ap (option_map view) c.in_default.is)

pub returns : goal.returns
returns c =
    one_read c.args.text.now c.args.number (place_of c.args.place.now) (view c.args.value) (view c.in-Some.read)
    (option_map view c.in_ok-read.field-0) (option_map view c.in_ok-made.made) c.in_ok-read.ensures
    (ap (option_map view) c.in-Some.is)
    (c.in_ok-made.ensures
    ∙ ap (λ p. with_change (path_of p) (set (view c.in-Some.read)) (view c.args.value)) c.as_slice.ensures.value)
