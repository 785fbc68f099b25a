use Rattle.std.proofs.Common.{List, sym, subst}
use Rattle.backtrace.specs.Agreeing.{AgreeAt}
use Rattle.backtrace.specs.MemoryWords.{words_in}
use Rattle.backtrace.specs.declared.frames.Frame.{Frame}
use Rattle.memory_replies.specs.Backtrace.{words_of}
use Rattle.memory_replies.proofs.stack.are_settled.Goals as goal

pub loop-frame-init : goal.loop-frame-init
loop-frame-init c image front space is values agree = rw c.in_stack-frames.ensures.frames at agree

pub loop-frame-preserved : goal.loop-frame-preserved
loop-frame-preserved c image front space is values agree =
    let here = c.is_settled.ensures c.if-not-is_settled.false image front space is values in
    c.loop-frame.invariant image front space is values
    (subst (λ (fs : List Frame). AgreeAt (words_of space) (words_in c.args.stack.first c.args.stack.bytes.now) c.loop-frame.before fs) (sym c.in-Some.ensures.steps.frames) (here, agree))

pub returns : goal.returns
returns c says image front space is values =
    c.loop-frame.invariant image front space is values
    (subst (λ (fs : List Frame). AgreeAt (words_of space) (words_in c.args.stack.first c.args.stack.bytes.now) c.loop-frame.before fs) (sym c.in_default.ensures.steps.frames.0) tt)
