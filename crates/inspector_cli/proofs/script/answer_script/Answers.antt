use Rattle.script_streams.specs.Printing.{sink}
use Rattle.std.proofs.Common.{refl, ◌∙◌}
use Rattle.std.proofs.lemmas.Result.{err_from_is_err_and}
use Rattle.inspector_cli.proofs.RunLemmas.{begun, goes_along, stops_as}
use Rattle.inspector_cli.proofs.StageLemmas.{laws_of, stage_of}
use Rattle.inspector_cli.proofs.script.answer_script.Goals as goal

pub loop-goes_on-init : goal.loop-goes_on-init
loop-goes_on-init g c = record {
  along = λ before. begun g.D.Disk c.args.naming.now (g.I.Input.remaining c.args.input.now) c.args.buffer.now (sink g.O.Output c.args.reply.now) (stage_of c.args.archive.now before);
  failures = refl;
  kept = tt;
  are_kept = tt;
}

pub returns-in_err-goes_on-clause-answers : goal.returns-in_err-goes_on-clause-answers
returns-in_err-goes_on-clause-answers g c = λ before.
    let q = err_from_is_err_and c.from_residual.result c.from_residual.ensures.1 in
    rw q.1 (stops_as g.D.Disk (laws_of g.D.Disk c.calls_lead_from_mark_to_mark.ensures.stays c.calls_lead_from_mark_to_mark.ensures.finish c.calls_lead_from_mark_to_mark.ensures.delete c.calls_lead_from_mark_to_mark.ensures.pin c.calls_lead_from_mark_to_mark.ensures.label c.calls_lead_from_mark_to_mark.ensures.upgrade c.calls_lead_from_mark_to_mark.ensures.retire) c.args.naming.now (g.I.Input.remaining c.args.input.now) (g.I.Input.remaining c.loop-goes_on.input) (g.I.Input.remaining c.answer_command.new.input)
    c.args.buffer.now c.loop-goes_on.buffer c.answer_command.new.buffer
    (sink g.O.Output c.args.reply.now) (sink g.O.Output c.loop-goes_on.reply) (sink g.O.Output c.answer_command.new.reply)
    (stage_of c.args.archive.now before) c.loop-goes_on.archive c.answer_command.new.archive
    (rw c.loop-goes_on-test.true at (c.loop-goes_on.invariant.along before)) _ q.0 q.2 c.in_err-goes_on.ensures.answers)

pub loop-goes_on-preserved : goal.loop-goes_on-preserved
loop-goes_on-preserved g c = record {
  along =
      λ before. goes_along g.D.Disk (laws_of g.D.Disk c.calls_lead_from_mark_to_mark.ensures.stays c.calls_lead_from_mark_to_mark.ensures.finish c.calls_lead_from_mark_to_mark.ensures.delete c.calls_lead_from_mark_to_mark.ensures.pin c.calls_lead_from_mark_to_mark.ensures.label c.calls_lead_from_mark_to_mark.ensures.upgrade c.calls_lead_from_mark_to_mark.ensures.retire) c.args.naming.now (g.I.Input.remaining c.args.input.now) (g.I.Input.remaining c.loop-goes_on.input) (g.I.Input.remaining c.answer_command.new.input)
      c.args.buffer.now c.loop-goes_on.buffer c.answer_command.new.buffer
      (sink g.O.Output c.args.reply.now) (sink g.O.Output c.loop-goes_on.reply) (sink g.O.Output c.answer_command.new.reply)
      (stage_of c.args.archive.now before) c.loop-goes_on.archive c.answer_command.new.archive
      (rw c.loop-goes_on-test.true at (c.loop-goes_on.invariant.along before)) c.in_ok-goes_on.goes_on c.in_ok-goes_on.ensures.answers;
  failures = c.in_ok-goes_on.ensures.stops ∙ c.loop-goes_on.invariant.failures;
  kept = c.in_ok-goes_on.ensures.kept;
  are_kept = c.in_ok-goes_on.ensures.are_kept;
}

pub returns-clause-answers : goal.returns-clause-answers
returns-clause-answers g c = λ before. (rw c.loop-goes_on-test.false at (c.loop-goes_on.invariant.along before))
