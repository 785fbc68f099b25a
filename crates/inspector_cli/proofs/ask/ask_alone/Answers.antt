use Rattle.std.proofs.Common.{[], sym, ap, subst, rules, ◌∙◌}
use Rattle.script_lines.specs.Said.{Said, raw_length}
use Rattle.inspector_cli.specs.Reply.{Replies}
use Rattle.inspector_cli.proofs.AskLemmas.{line_written, line_unwritten}
use Rattle.inspector_cli.proofs.LineLemmas.{no_raw_asked}
use Rattle.inspector_cli.proofs.StageLemmas.{laws_of, stage_of}
use Rattle.inspector_cli.proofs.ask.ask_alone.Goals as goal

pub returns-in_default-clause-session : goal.returns-in_default-clause-session
returns-in_default-clause-session g c = λ naming line before by_path one is.
    let told = c.answer_question-is_done.ensures.answers in
    let one_text = told.3 _ _ _ [] c.new-reply.ensures.told in
    let taken = c.in_default.ensures.delivered _ _ _ told.0 one_text in
    line_unwritten g.D.Disk (laws_of g.D.Disk c.calls_lead_from_mark_to_mark.ensures.stays c.calls_lead_from_mark_to_mark.ensures.finish c.calls_lead_from_mark_to_mark.ensures.delete c.calls_lead_from_mark_to_mark.ensures.pin c.calls_lead_from_mark_to_mark.ensures.label c.calls_lead_from_mark_to_mark.ensures.upgrade c.calls_lead_from_mark_to_mark.ensures.retire) c.found_after_a_stop.ensures naming line one (ap raw_length is ∙ no_raw_asked c.args.question)
    (stage_of c.args.archive.now before) c.answer_question-is_done.new.archive c.close_streams.new.archive told.0
    (subst (λ (w : Said). Replies g.D.Disk naming c.args.archive.now w [] told.0 c.answer_question-is_done.new.archive) (sym is) (told.1 naming by_path)) c.close_streams.ensures
    (g.O.Output.taken c.args.output.now) _ (g.O.Output.failures c.args.output.now) _ c.in_default.field-0 (search (one_text.same, c.finish.ensures.same, taken, rules))

pub returns-clause-session : goal.returns-clause-session
returns-clause-session g c = λ naming line before by_path one is.
    let told = c.answer_question-is_done.ensures.answers in
    let one_text = told.3 _ _ _ [] c.new-reply.ensures.told in
    let taken = c.in-Ok.ensures.delivered _ _ _ told.0 one_text in
    line_written g.D.Disk (laws_of g.D.Disk c.calls_lead_from_mark_to_mark.ensures.stays c.calls_lead_from_mark_to_mark.ensures.finish c.calls_lead_from_mark_to_mark.ensures.delete c.calls_lead_from_mark_to_mark.ensures.pin c.calls_lead_from_mark_to_mark.ensures.label c.calls_lead_from_mark_to_mark.ensures.upgrade c.calls_lead_from_mark_to_mark.ensures.retire) c.found_after_a_stop.ensures naming line one (ap raw_length is ∙ no_raw_asked c.args.question)
    (stage_of c.args.archive.now before) c.answer_question-is_done.new.archive c.close_streams.new.archive told.0
    (subst (λ (w : Said). Replies g.D.Disk naming c.args.archive.now w [] told.0 c.answer_question-is_done.new.archive) (sym is) (told.1 naming by_path)) c.close_streams.ensures
    (g.O.Output.taken c.args.output.now) _ (g.O.Output.failures c.args.output.now) (g.O.Output.failures c.finish.new.self.output.now) c.answer_question-is_done.result (search (one_text.same, c.finish.ensures.same, taken, rules))

pub returns-clause-outcome : goal.returns-clause-outcome
returns-clause-outcome g c =
    let told = c.answer_question-is_done.ensures.answers in
    let one_text = told.3 _ _ _ [] c.new-reply.ensures.told in
    let taken = c.in-Ok.ensures.delivered _ _ _ told.0 one_text in
    (told.0, c.answer_question-is_done.new.archive, told.1, told.2, c.close_streams.ensures, search (one_text.same, c.finish.ensures.same, taken, rules))
