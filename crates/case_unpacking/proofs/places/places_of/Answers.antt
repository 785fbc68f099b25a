use Rattle.case_unpacking.proofs.PlaceLemmas.{step_place}
use Rattle.case_unpacking.proofs.places.places_of.Goals as goal

pub loop-file-preserved : goal.loop-file-preserved
loop-file-preserved c =
    step_place c.args.files.now c.loop-file.file-index _ c.loop-file.places.items c.as_slice.result.now c.push.new.self.items c.place_beside-place.result
    c.loop-file-test.true c.loop-file.invariant c.place_beside-place.ensures c.as_slice.ensures.value c.in_ok-push.ensures.items
