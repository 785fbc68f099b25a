use Rattle.std.proofs.Common.{map, refl, subst}
use Rattle.memory_replies.specs.Answers.{AnswersWith}
use Rattle.memory_replies.specs.Backtrace.{frames_answer}
use Rattle.memory_replies.specs.Memory.{attached_view, mapped_files}
use Rattle.memory_replies.specs.Naming.{function_of}
use Rattle.memory_replies.proofs.frames.print_bt_with_debugs.Goals as goal

pub returns-in_default : goal.returns-in_default
returns-in_default g c image has = (_, refl, c.print_no.ensures)

pub returns : goal.returns
returns g c image has =
    let xs = map attached_view c.args.attached.now in
    let told = c.print_thread_of.ensures image xs has c.in-Ok.ensures.space in
    (told.0, subst (λ files. AnswersWith c.print_thread_of.result (frames_answer image xs (function_of (mapped_files image) files) c.args.thread) told.0) c.in-Ok.ensures.named told.1, told.2)
