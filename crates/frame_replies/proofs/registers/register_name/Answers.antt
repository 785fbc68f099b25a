use Rattle.std.proofs.Common.{ap, ◌∙◌, slice_get}
use Rattle.thread_regs.specs.Register.{abi_names}
use Rattle.image_replies.specs.Threads.{name_or_nothing, register_name}
use Rattle.frame_replies.proofs.registers.register_name.Goals as goal

pub returns : goal.returns
unfolding register_name
returns c = ap name_or_nothing (c.name.ensures ∙ ap (slice_get abi_names) c.of_word.ensures)
