use Rattle.std.proofs.Common.{arith, refl, ◌∙◌}
use Rattle.memory_replies.proofs.SpaceLemmas.{one_more}
use Rattle.memory_replies.proofs.attached.space_with.Goals as goal

pub loop-executable-preserved : goal.loop-executable-preserved
loop-executable-preserved c = record {
  attached = one_more _ c.args.attached.now c.loop-executable.executable-index _ _ _ _ (omega arith) refl c.loop-executable.invariant.attached c.in_ok-attach.ensures.attached;
  core = c.in_ok-attach.ensures.core ∙ c.loop-executable.invariant.core;
}
