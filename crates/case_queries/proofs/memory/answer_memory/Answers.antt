use Rattle.std.proofs.Common.{◌∙◌, refl}
use Rattle.script_streams.specs.Replies.{no_reply}
use Rattle.image_replies.specs.Reasons.{core_reason}
use Rattle.case_queries.proofs.ShowLemmas.{core_shown, fault_same, fault_shown}
use Rattle.case_queries.proofs.memory.answer_memory.Goals as goal

pub returns-in-Err-clause-answers : goal.returns-in-Err-clause-answers
returns-in-Err-clause-answers g c image by =
    let same = fault_same c.a_sound_front_answers.ensures.fault c.args.query.now c.args.front.now c.args.window.size c.args.window.at c.args.window.bytes.now image by in (
      no_reply (core_reason c.in-Err.fault),
      fault_shown g.D.Disk c.args.archive.now c.args.kind image c.args.query.now c.in-Err.fault (c.in-Err.ensures.fault ∙ same),
      (core_reason c.in-Err.fault, refl),
      c.print_core_fault.ensures,
    )

pub returns-in-Ok-clause-answers : goal.returns-in-Ok-clause-answers
returns-in-Ok-clause-answers g c image by =
    let same = fault_same c.a_sound_front_answers.ensures.fault c.args.query.now c.args.front.now c.args.window.size c.args.window.at c.args.window.bytes.now image by in
    let told = c.answer_core.ensures.answers image (rw c.in-Ok.ensures.image by) in
    (told.0, core_shown g.D.Disk c.args.archive.now c.args.kind image c.args.query.now c.args.front.now told.0 c.answer_core.new.archive same c.in-Ok.ensures.fault told.1, told.2, told.3)
