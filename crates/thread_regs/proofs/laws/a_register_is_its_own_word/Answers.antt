use Rattle.thread_regs.proofs.Words.{own_word}
use Rattle.thread_regs.proofs.laws.a_register_is_its_own_word.Goals as goal

pub returns-clause-x : goal.returns-clause-x
returns-clause-x c = own_word
