use Rattle.std.proofs.Common.{◌∙◌}
use Rattle.call_frames.specs.EntryWords.{table_view}
use Rattle.call_frames.proofs.SpotPlaces.{entries_step, entries_none}
use Rattle.call_frames.proofs.walk.next_entry.Goals as goal

pub returns-in-Some-sound_entry : goal.returns-in-Some-sound_entry
returns-in-Some-sound_entry c =
    c.loop-spot.invariant ∙ entries_step (table_view c.args.table.now) _ _ c.in-Some.spot _ c.in-Some.ensures.steps c.in-Some-sound_entry.ensures

pub loop-spot-preserved : goal.loop-spot-preserved
loop-spot-preserved c =
    c.loop-spot.invariant ∙ entries_step (table_view c.args.table.now) _ _ c.in-Some.spot _ c.in-Some.ensures.steps c.in-None.ensures

pub returns : goal.returns
returns c =
    let t = table_view c.args.table.now in
    let last = c.in_default.ensures.steps in (c.loop-spot.invariant ∙ entries_none t _ last.0, entries_none t _ last.1)
