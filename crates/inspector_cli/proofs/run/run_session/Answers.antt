use Rattle.std.proofs.Common.{sym, subst, Err, rules}
use Rattle.script_streams.specs.Printing.{sink}
use Rattle.inspector_cli.specs.Session.{SessionEnds, streams_of}
use Rattle.inspector_cli.specs.declared.session.SessionFault.{SessionFault}
use Rattle.inspector_cli.proofs.SessionLemmas.{ended, read_stopped, write_failed}
use Rattle.inspector_cli.proofs.StageLemmas.{laws_of, stage_of}
use Rattle.inspector_cli.proofs.run.run_session.Goals as goal

pub returns-in_default : goal.returns-in_default
returns-in_default g c = λ before.
    write_failed g.D.Disk (laws_of g.D.Disk c.calls_lead_from_mark_to_mark.ensures.stays c.calls_lead_from_mark_to_mark.ensures.finish c.calls_lead_from_mark_to_mark.ensures.delete c.calls_lead_from_mark_to_mark.ensures.pin c.calls_lead_from_mark_to_mark.ensures.label c.calls_lead_from_mark_to_mark.ensures.upgrade c.calls_lead_from_mark_to_mark.ensures.retire) c.found_after_a_stop.ensures c.args.naming.now (g.I.Input.remaining c.args.input.now) (g.I.Input.remaining c.answer_script-answered.new.input)
    c.new-buffer.result c.answer_script-answered.new.buffer (g.I.Input.failures c.args.input.now) (g.I.Input.failures c.answer_script-answered.new.input)
    (g.O.Output.taken c.args.output.now) (g.O.Output.failures c.args.output.now) _ (sink g.O.Output c.new-reply.result) (sink g.O.Output c.answer_script-answered.new.reply) _ _
    (stage_of c.args.archive.now before) c.answer_script-answered.new.archive c.close_streams.new.archive
    c.new-buffer.ensures.empty c.new-buffer.ensures.unread c.new-reply.ensures.told c.close_streams.ensures
    c.in_default.field-0 c.answer_script-answered.result (c.answer_script-answered.ensures.answers before) (λ from told one. (let taken = c.in_default.ensures.delivered _ _ _ told one in search (one.same, c.finish.ensures.same, taken, rules)))

pub returns-in-Ok-answered : goal.returns-in-Ok-answered
returns-in-Ok-answered g c = λ before.
    ended g.D.Disk (laws_of g.D.Disk c.calls_lead_from_mark_to_mark.ensures.stays c.calls_lead_from_mark_to_mark.ensures.finish c.calls_lead_from_mark_to_mark.ensures.delete c.calls_lead_from_mark_to_mark.ensures.pin c.calls_lead_from_mark_to_mark.ensures.label c.calls_lead_from_mark_to_mark.ensures.upgrade c.calls_lead_from_mark_to_mark.ensures.retire) c.found_after_a_stop.ensures c.args.naming.now (g.I.Input.remaining c.args.input.now) (g.I.Input.remaining c.answer_script-answered.new.input)
    c.new-buffer.result c.answer_script-answered.new.buffer (g.I.Input.failures c.args.input.now) (g.I.Input.failures c.answer_script-answered.new.input)
    (g.O.Output.taken c.args.output.now) (g.O.Output.failures c.args.output.now) _ (sink g.O.Output c.new-reply.result) (sink g.O.Output c.answer_script-answered.new.reply) _ (g.O.Output.failures c.finish.new.self.output.now)
    (stage_of c.args.archive.now before) c.answer_script-answered.new.archive c.close_streams.new.archive
    c.new-buffer.ensures.empty c.new-buffer.ensures.unread c.new-reply.ensures.told c.close_streams.ensures
    tt (c.in-Ok-answered.ensures.answers before) (λ from told one. (let taken = c.in-Ok.ensures.delivered _ _ _ told one in search (one.same, c.finish.ensures.same, taken, rules)))

pub returns-in-Err : goal.returns-in-Err
returns-in-Err g c = λ before.
    subst (λ (x : SessionFault). SessionEnds g.D.Disk c.args.naming.now (streams_of g.I.Input g.O.Output c.args.input.now c.answer_script-answered.new.input c.args.output.now c.output-1.given.0)
    (stage_of c.args.archive.now before) c.close_streams.new.archive (Err x))
    (sym c.session_fault.ensures)
    (read_stopped g.D.Disk (laws_of g.D.Disk c.calls_lead_from_mark_to_mark.ensures.stays c.calls_lead_from_mark_to_mark.ensures.finish c.calls_lead_from_mark_to_mark.ensures.delete c.calls_lead_from_mark_to_mark.ensures.pin c.calls_lead_from_mark_to_mark.ensures.label c.calls_lead_from_mark_to_mark.ensures.upgrade c.calls_lead_from_mark_to_mark.ensures.retire) c.found_after_a_stop.ensures c.args.naming.now (g.I.Input.remaining c.args.input.now) (g.I.Input.remaining c.answer_script-answered.new.input)
    c.new-buffer.result c.answer_script-answered.new.buffer (g.I.Input.failures c.args.input.now) (g.I.Input.failures c.answer_script-answered.new.input)
    (g.O.Output.taken c.args.output.now) (g.O.Output.failures c.args.output.now) _ (sink g.O.Output c.new-reply.result) (sink g.O.Output c.answer_script-answered.new.reply) _ _
    (stage_of c.args.archive.now before) c.answer_script-answered.new.archive c.close_streams.new.archive
    c.new-buffer.ensures.empty c.new-buffer.ensures.unread c.new-reply.ensures.told c.close_streams.ensures
    tt c.in-Err.stop c.in-Ok.ensures.unfailed (c.in-Err.ensures.answers before) (λ from told one. (let taken = c.in-Ok.ensures.delivered _ _ _ told one in search (one.same, c.finish.ensures.same, taken, rules))) c.in-Err.ensures.stops)
