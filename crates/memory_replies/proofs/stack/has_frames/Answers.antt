use Rattle.std.proofs.Common.{ap, ◌∙◌}
use Rattle.image_replies.specs.CoreWords.{core_bytes}
use Rattle.thread_regs.specs.Register.{register_in}
use Rattle.thread_regs.specs.ThreadWords.{thread_bytes}
use Rattle.memory_replies.proofs.FrameLemmas.{desc_is}
use Rattle.memory_replies.proofs.StackLemmas.{frames_known}
use Rattle.memory_replies.proofs.stack.has_frames.Goals as goal

pub returns : goal.returns
returns c says image front has =
    let desc = thread_bytes c.in-Some.thread in
    let b = core_bytes c.args.core.now in
    let window = c.args.window in
    let values = c.is_stack.ensures c.if-not-is_stack.false image front has in
    frames_known b image window.size c.args.thread window.bytes.now desc c.register-pc.result c.register-fp.result c.saturating_sub.result (desc_is b c.args.thread _ _ _ c.in-Some.ensures c.threads.ensures c.notes.ensures)
    (c.register-pc.ensures ∙ ap (register_in desc) c.of_word.ensures) (c.register-fp.ensures ∙ ap (register_in desc) c.of_word-2.ensures) c.saturating_sub.ensures front
    (λ space is. c.are_settled.ensures says image front space is (values space is))
