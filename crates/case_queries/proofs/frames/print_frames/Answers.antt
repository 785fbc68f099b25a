use Rattle.std.proofs.Common.{sym, subst}
use Rattle.memory_replies.specs.Answers.{AnswersWith}
use Rattle.case_queries.specs.Asking.{frames_answer}
use Rattle.case_queries.proofs.frames.print_frames.Goals as goal

pub returns-in-Registers : goal.returns-in-Registers
returns-in-Registers g c image xs thread is =
    let told = c.print_walked_frame.ensures image xs thread c.args.process.now c.args.unwound.now.stop is.0 is.1 in
    (told.0, subst (λ a. AnswersWith c.print_walked_frame.result (frames_answer image xs thread a) told.0) (sym c.in-Registers.is) told.1, told.2)

pub returns-in-Shown : goal.returns-in-Shown
returns-in-Shown g c image xs thread is =
    let told = c.print_walked.ensures image xs thread is.0 is.1 in
    (told.0, subst (λ a. AnswersWith c.print_walked.result (frames_answer image xs thread a) told.0) (sym c.in-Shown.is) told.1, told.2)
