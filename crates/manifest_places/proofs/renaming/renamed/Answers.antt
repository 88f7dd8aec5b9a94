use Rattle.manifest_places.specs.Paths.{path_of}
use Rattle.manifest_places.specs.Splices.{splice_of}
use Rattle.manifest_places.specs.Places.{place_of}
use Rattle.manifest_places.specs.Edits.{RenamesKey, RenamesHeader}
use Rattle.manifest_places.proofs.PlanLemmas.{zipped_more}
use Rattle.manifest_places.proofs.renaming.renamed.Goals as goal
use Rattle.manifest_places.proofs.renaming.renamed.Goals.{in-Some+in_ok-place+in-Some-2+in_ok-push+in_ok-push-2, in_default, in-Some-header_at+in_ok-place-2+in-Some-3+in_ok-push-3+in_ok-push-4, in_default-header_at}

pub loop-at-preserved : goal.loop-at-preserved
loop-at-preserved c =
    let text = c.args.text.now in
    let path = path_of c.args.path.now in
    let put = c.args.put.now in (
      elim c.match-key_through.branch [
        | in-Some+in_ok-place+in-Some-2+in_ok-push+in_ok-push-2 w ↦
            rw (w.places-is, w.by_key-is, w.in_ok-push.ensures.items, w.in_ok-push-2.ensures.items)
            (zipped_more (RenamesKey text path put) place_of splice_of c.loop-at.places.items c.loop-at.by_key.items
            w.in-Some-2.place w.in-Some-2.splice c.loop-at.invariant.0
            (rw w.in-Some-2.is at w.in_ok-place.ensures))
        | in_default w ↦ rw (w.places-is, w.by_key-is) c.loop-at.invariant.0
      ],
      elim c.match-header_at.branch [
        | in-Some-header_at+in_ok-place-2+in-Some-3+in_ok-push-3+in_ok-push-4 w ↦
            rw (w.headers-is, w.by_header-is, w.in_ok-push-3.ensures.items, w.in_ok-push-4.ensures.items)
            (zipped_more (RenamesHeader text path put) place_of splice_of c.loop-at.headers.items
            c.loop-at.by_header.items w.in-Some-3.place w.in-Some-3.splice c.loop-at.invariant.1
            (rw w.in-Some-3.is at w.in_ok-place-2.ensures))
        | in_default-header_at w ↦ rw (w.headers-is, w.by_header-is) c.loop-at.invariant.1
      ],
    )
