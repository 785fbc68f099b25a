use Rattle.std.proofs.Common.{sym, ◌∙◌}
use Rattle.call_frames.specs.EntryWords.{table_view}
use Rattle.call_frames.proofs.SpotPlaces.{fault_step, fault_none}
use Rattle.call_frames.proofs.walk.first_fault.Goals as goal

pub returns-in-Err : goal.returns-in-Err
returns-in-Err c =
    sym (c.loop-spot.invariant ∙ fault_step (table_view c.args.table.now) _ _ c.in-Some.spot _ c.in-Some.ensures.steps c.in-Err.ensures)

pub loop-spot-preserved : goal.loop-spot-preserved
loop-spot-preserved c =
    c.loop-spot.invariant ∙ fault_step (table_view c.args.table.now) _ _ c.in-Some.spot _ c.in-Some.ensures.steps c.in-Ok.ensures

pub returns : goal.returns
returns c = sym (c.loop-spot.invariant ∙ fault_none (table_view c.args.table.now) _ c.in_default.ensures.steps.0)
