use Rattle.std.proofs.Common.{map}
use Rattle.std.specs.List.{AllZip}
use Rattle.manifest_places.specs.Paths.{path_of}
use Rattle.manifest_places.specs.Splices.{splice_of}
use Rattle.manifest_places.specs.Places.{place_of}
use Rattle.manifest_places.specs.Edits.{RenamesKey, RenamesHeader}
use Rattle.manifest_places.proofs.renaming.renamed.Given as goal

-- what is replaced so far is replaced in the keys of the values and headers so far
abbrev pub invariant-loop-at : goal.invariant-loop-at
invariant-loop-at l =
    AllZip (RenamesKey l.text (path_of l.path) l.put) (map place_of l.places.items) (map splice_of l.by_key.items)
    × AllZip (RenamesHeader l.text (path_of l.path) l.put) (map place_of l.headers.items)
    (map splice_of l.by_header.items)
