use Rattle.std.proofs.Common.{◌∙◌}
use Rattle.memory_replies.proofs.SpaceLemmas.{plain_is}
use Rattle.memory_replies.proofs.attached.plain_space.Goals as goal

pub returns-in-Err : goal.returns-in-Err
returns-in-Err c = c.new.ensures.same ∙ plain_is c.elf.result c.files.result _ _ c.elf.ensures.image c.files.ensures c.notes.ensures
