use Rattle.memory_replies.proofs.FrameLemmas.{is_known, is_unknown}
use Rattle.memory_replies.proofs.SymbolLemmas.{fault_is}
use Rattle.memory_replies.proofs.symbolized_executables.read_named.Goals as goal

pub returns-in-Ok : goal.returns-in-Ok
returns-in-Ok c = is_known _ (fault_is _ _ _ c.requires.sound c.requires.image c.in-Ok.ensures.fault)

pub returns-in-Err-Fault : goal.returns-in-Err-Fault
returns-in-Err-Fault c = is_unknown _ _ (fault_is _ _ _ c.requires.sound c.requires.image (rw c.in-Err-Fault.field-0-is at c.in-Err-Fault.ensures.fault))
