use Rattle.std.proofs.Common.{arith}
use Rattle.frame_replies.proofs.RegisterLemmas.{first_register, no_registers}
use Rattle.frame_replies.proofs.PrintLemmas.{up_to_start, up_to_then, up_to_end}
use Rattle.frame_replies.proofs.registers.print_registers.Goals as goal

pub loop-word-init : goal.loop-word-init
loop-word-init g c = up_to_start

pub loop-word-preserved : goal.loop-word-preserved
loop-word-preserved g c = up_to_then (first_register _ c.loop-word.word c.loop-word-test.true) c.loop-word.invariant c.print_register.ensures

pub returns : goal.returns
returns g c = up_to_end (no_registers _ c.loop-word.word (omega arith)) c.loop-word.invariant
