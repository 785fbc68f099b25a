use Rattle.std.proofs.Common.{ap, sym, subst, ◌∙◌}
use Rattle.thread_regs.specs.Register.{register_in}
use Rattle.thread_regs.specs.ThreadWords.{thread_bytes}
use Rattle.address_space.specs.SpaceWords.{space_of}
use Rattle.memory_replies.specs.Stack.{IsWalked}
use Rattle.memory_replies.proofs.FrameLemmas.{thread_is}
use Rattle.script_streams.specs.PrintLaws.{prints_as}
use Rattle.memory_replies.proofs.frames.print_thread.Goals as goal

pub returns : goal.returns
returns g c other walked =
    let desc = thread_bytes c.args.thread in
    let pc_is = c.register-pc.ensures ∙ ap (register_in desc) c.of_word-2.ensures in
    let fp_is = c.register-fp.ensures ∙ ap (register_in desc) c.of_word-3.ensures in
    let space = space_of c.args.space.now in
    let here = subst (λ n. IsWalked c.args.stack n c.register-fp.result space other) (sym pc_is) (subst (λ n. IsWalked c.args.stack (register_in desc 32) n space other) (sym fp_is) walked) in
    prints_as
    (thread_is _ _ _ _ _ _ _ _
    (c.register-ra.ensures ∙ ap (register_in desc) c.of_word.ensures) pc_is fp_is
    (c.frames_from.ensures.frames other here) (c.frames_from.ensures.stop other here))
    c.print_frames.ensures
