use Rattle.script_streams.specs.Replies.{printing}
use Rattle.std.proofs.Common.{◌≡◌, ◌+◌, cond, List}
use Rattle.intake.specs.Durable.{Durable}
use Rattle.script_streams.specs.Reading.{steps_left}
use Rattle.case_queries.specs.Keeping.{AreKept}
use Rattle.case_queries.specs.Seeing.{IsKept}
use Rattle.inspector_cli.proofs.RunLemmas.{Along}
use Rattle.inspector_cli.proofs.StageLemmas.{stage_of}
use Rattle.inspector_cli.proofs.script.answer_script.Given as goal

abbrev pub invariant-loop-goes_on : goal.invariant-loop-goes_on
invariant-loop-goes_on g l = record {
  along :
      (before : List Durable) → Along g.D.Disk l.naming
      (record { before = g.I.Input.remaining l.initial.input; after = g.I.Input.remaining l.input; buffer = l.initial.buffer; buffer' = l.buffer })
      (printing g.O.Output l.initial.reply l.reply)
      (stage_of l.initial.archive before) l.archive l.goes_on;
  failures : g.I.Input.failures l.input ≡ g.I.Input.failures l.initial.input;
  kept : IsKept g.D.Disk l.archive l.images.kept;
  are_kept : AreKept g.D.Disk l.archive l.images.kept;
}

abbrev pub decreases-loop-goes_on : goal.decreases-loop-goes_on
decreases-loop-goes_on g l = steps_left l.buffer + cond l.goes_on 1 0
