use Rattle.std.proofs.Common.{arith, refl, ◌∙◌}
use Rattle.memory_replies.proofs.SpaceLemmas.{one_more, one_named}
use Rattle.memory_replies.proofs.attached.space_and_images.Goals as goal

pub loop-executable-preserved : goal.loop-executable-preserved
loop-executable-preserved c =
    let at = c.loop-executable.executable-index in
    let all = c.args.attached.now in record {
      attached = one_more _ all at _ _ _ _ (omega arith) refl c.loop-executable.invariant.attached c.in_ok-attach_named.ensures.space;
      named = one_named all at _ _ _ _ (omega arith) refl c.loop-executable.invariant.named c.in_ok-attach_named.ensures.images;
      core = c.in_ok-attach_named.ensures.core ∙ c.loop-executable.invariant.core;
    }
