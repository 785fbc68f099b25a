use Rattle.memory_replies.specs.Memory.{attached_view}
use Rattle.memory_replies.proofs.FrameLemmas.{elf_fault_is}
use Rattle.memory_replies.proofs.SpaceLemmas.{none_named}
use Rattle.memory_replies.proofs.attached.attach_named.Goals as goal

pub returns-in-Err-clause-images : goal.returns-in-Err-clause-images
returns-in-Err-clause-images c = none_named (attached_view c.args.executable) _ _ (elf_fault_is _ _ c.in-Err.ensures.fault)
