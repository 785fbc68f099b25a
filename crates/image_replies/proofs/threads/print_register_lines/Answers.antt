use Rattle.std.proofs.Common.{arith}
use Rattle.image_replies.proofs.NameLemmas.{first_register, no_registers}
use Rattle.image_replies.proofs.TextLemmas.{front_begins, front_grows, front_ends}
use Rattle.image_replies.proofs.threads.print_register_lines.Goals as goal

pub loop-word-init : goal.loop-word-init
loop-word-init g c = front_begins

pub loop-word-preserved : goal.loop-word-preserved
loop-word-preserved g c = front_grows c.loop-word.invariant (first_register _ c.loop-word.word c.loop-word-test.true) c.print_register_line.ensures

pub returns : goal.returns
returns g c = front_ends c.loop-word.invariant (no_registers _ c.loop-word.word (omega arith))
