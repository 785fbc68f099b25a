use Rattle.std.proofs.Common.{[], rules}
use Rattle.std.proofs.lemmas.Bool.{false≢true}
use Rattle.inspector_cli.proofs.DeletingLemmas.{lines_tried, session_of_lines}
use Rattle.inspector_cli.proofs.StageLemmas.{laws_of, stage_of}
use Rattle.inspector_cli.proofs.deleting.delete_alone.Goals as goal

pub returns-in_default-clause-session : goal.returns-in_default-clause-session
returns-in_default-clause-session g c = λ naming line before lines.
    let laws = laws_of g.D.Disk c.calls_lead_from_mark_to_mark.ensures.stays c.calls_lead_from_mark_to_mark.ensures.finish c.calls_lead_from_mark_to_mark.ensures.delete c.calls_lead_from_mark_to_mark.ensures.pin c.calls_lead_from_mark_to_mark.ensures.label c.calls_lead_from_mark_to_mark.ensures.upgrade c.calls_lead_from_mark_to_mark.ensures.retire in
    let told = c.delete_in_turn-is_done.ensures in
    let old = stage_of c.args.archive.now before in
    let tries = lines_tried g.D.Disk laws naming line old c.args.numbers.now told.1.0 told.1.1 c.delete_in_turn-is_done.result c.delete_in_turn-is_done.new.archive told.1.2 told.1.3 lines in (
      tries.tried,
      record { rest = tries.rest; front = tries.front; all = λ none. absurd (false≢true none) },
      tries.ran.replies,
      session_of_lines g.D.Disk laws naming line c.found_after_a_stop.ensures old tries.tried c.delete_in_turn-is_done.new.archive c.close_streams.new.archive tries.lines tries.ran c.close_streams.ensures,
    )

pub returns-clause-session : goal.returns-clause-session
returns-clause-session g c = λ naming line before lines.
    let laws = laws_of g.D.Disk c.calls_lead_from_mark_to_mark.ensures.stays c.calls_lead_from_mark_to_mark.ensures.finish c.calls_lead_from_mark_to_mark.ensures.delete c.calls_lead_from_mark_to_mark.ensures.pin c.calls_lead_from_mark_to_mark.ensures.label c.calls_lead_from_mark_to_mark.ensures.upgrade c.calls_lead_from_mark_to_mark.ensures.retire in
    let told = c.delete_in_turn-is_done.ensures in
    let old = stage_of c.args.archive.now before in
    let tries = lines_tried g.D.Disk laws naming line old c.args.numbers.now told.1.0 told.1.1 c.delete_in_turn-is_done.result c.delete_in_turn-is_done.new.archive told.1.2 told.1.3 lines in (
      tries.tried,
      record { rest = tries.rest; front = tries.front; all = tries.all },
      tries.ran.replies,
      session_of_lines g.D.Disk laws naming line c.found_after_a_stop.ensures old tries.tried c.delete_in_turn-is_done.new.archive c.close_streams.new.archive tries.lines tries.ran c.close_streams.ensures,
    )

pub returns-clause-outcome : goal.returns-clause-outcome
returns-clause-outcome g c =
    let told = c.delete_in_turn-is_done.ensures in
    let one_text = told.2 _ _ _ [] c.new-reply.ensures.told in
    let taken = c.in-Ok.ensures.delivered _ _ _ told.0 one_text in
    (told.0, c.delete_in_turn-is_done.new.archive, told.1, c.close_streams.ensures, search (one_text.same, c.finish.ensures.same, taken, rules))
