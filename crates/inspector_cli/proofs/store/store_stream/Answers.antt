use Rattle.std.proofs.Common.{ℕ, List, Result, rules, subst}
use Rattle.intake.specs.Parts.{state_of}
use Rattle.intake.specs.State.{StreamFacts}
use Rattle.script_streams.specs.Replies.{PrintsReply}
use Rattle.inspector_cli.specs.Bursts.{admitted}
use Rattle.script_streams.specs.Printing.{sink}
use Rattle.stream_names.specs.Commands.{stream_found}
use Rattle.inspector_cli.specs.Storing.{Stores, options_asked}
use Rattle.inspector_cli.proofs.StoreLemmas.{store_written, store_failed}
use Rattle.inspector_cli.proofs.StageLemmas.{laws_of, stage_of}
use Rattle.inspector_cli.proofs.store.store_stream.Goals as goal

pub returns-in_default-clause-ends : goal.returns-in_default-clause-ends
returns-in_default-clause-ends g c = λ doubts.
    let found : Result StreamFacts (List ℕ) = admitted c.args.options.now.burst (state_of c.args.archive.now).stopped (state_of c.args.archive.now).cases (stream_found c.args.found) in
    let told = subst
    (λ (f : Result StreamFacts (List ℕ)). PrintsReply (record { before = sink g.O.Output c.new-reply.result; after = sink g.O.Output c.answer_all-outcome.new.reply })
    (λ text. Stores g.D.Disk (g.I.Input.remaining c.args.file.now) (g.I.Input.remaining c.answer_all-outcome.new.file) (g.I.Input.failures c.args.file.now) (g.I.Input.failures c.answer_all-outcome.new.file)
    c.args.archive.now c.args.policy f (options_asked c.args.options.now) text c.answer_all-outcome.new.archive c.answer_all-outcome.result)) c.admitted-found.ensures c.answer_all-outcome.ensures
    in
    store_failed g.D.Disk (laws_of g.D.Disk c.calls_lead_from_mark_to_mark.ensures.stays c.calls_lead_from_mark_to_mark.ensures.finish c.calls_lead_from_mark_to_mark.ensures.delete c.calls_lead_from_mark_to_mark.ensures.pin c.calls_lead_from_mark_to_mark.ensures.label c.calls_lead_from_mark_to_mark.ensures.upgrade c.calls_lead_from_mark_to_mark.ensures.retire) c.found_after_a_stop.ensures (g.I.Input.remaining c.args.file.now) (g.I.Input.remaining c.answer_all-outcome.new.file)
    (g.I.Input.failures c.args.file.now) (g.I.Input.failures c.answer_all-outcome.new.file)
    (g.O.Output.taken c.args.output.now) (g.O.Output.failures c.args.output.now) _ (sink g.O.Output c.new-reply.result) (sink g.O.Output c.answer_all-outcome.new.reply) _ _
    (stage_of c.args.archive.now doubts) c.answer_all-outcome.new.archive c.abandon.new.self c.args.policy found (options_asked c.args.options.now) c.answer_all-outcome.result
    c.abandon.result c.new-reply.ensures.told told
    c.abandon.ensures
    c.in_default.field-0 (λ told one. (let taken = c.in_default.ensures.delivered _ _ _ told one in search (one.same, c.finish.ensures.same, taken, rules)))

pub returns-in_default-clause-quiet : goal.returns-in_default-clause-quiet
returns-in_default-clause-quiet g c = c.abandon.ensures.quiet

pub returns-clause-ends : goal.returns-clause-ends
returns-clause-ends g c = λ doubts.
    let found : Result StreamFacts (List ℕ) = admitted c.args.options.now.burst (state_of c.args.archive.now).stopped (state_of c.args.archive.now).cases (stream_found c.args.found) in
    let told = subst
    (λ (f : Result StreamFacts (List ℕ)). PrintsReply (record { before = sink g.O.Output c.new-reply.result; after = sink g.O.Output c.answer_all-outcome.new.reply })
    (λ text. Stores g.D.Disk (g.I.Input.remaining c.args.file.now) (g.I.Input.remaining c.answer_all-outcome.new.file) (g.I.Input.failures c.args.file.now) (g.I.Input.failures c.answer_all-outcome.new.file)
    c.args.archive.now c.args.policy f (options_asked c.args.options.now) text c.answer_all-outcome.new.archive c.answer_all-outcome.result)) c.admitted-found.ensures c.answer_all-outcome.ensures
    in
    store_written g.D.Disk (laws_of g.D.Disk c.calls_lead_from_mark_to_mark.ensures.stays c.calls_lead_from_mark_to_mark.ensures.finish c.calls_lead_from_mark_to_mark.ensures.delete c.calls_lead_from_mark_to_mark.ensures.pin c.calls_lead_from_mark_to_mark.ensures.label c.calls_lead_from_mark_to_mark.ensures.upgrade c.calls_lead_from_mark_to_mark.ensures.retire) c.found_after_a_stop.ensures (g.I.Input.remaining c.args.file.now) (g.I.Input.remaining c.answer_all-outcome.new.file)
    (g.I.Input.failures c.args.file.now) (g.I.Input.failures c.answer_all-outcome.new.file)
    (g.O.Output.taken c.args.output.now) (g.O.Output.failures c.args.output.now) _ (sink g.O.Output c.new-reply.result) (sink g.O.Output c.answer_all-outcome.new.reply) _ (g.O.Output.failures c.finish.new.self.output.now)
    (stage_of c.args.archive.now doubts) c.answer_all-outcome.new.archive c.abandon.new.self c.args.policy found (options_asked c.args.options.now) c.answer_all-outcome.result
    c.abandon.result c.new-reply.ensures.told told
    c.abandon.ensures
    c.in-Ok.field-0 (λ told one. (let taken = c.in-Ok.ensures.delivered _ _ _ told one in search (one.same, c.finish.ensures.same, taken, rules)))

pub returns-clause-quiet : goal.returns-clause-quiet
returns-clause-quiet g c = c.abandon.ensures.quiet
