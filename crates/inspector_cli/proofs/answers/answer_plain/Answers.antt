use Rattle.std.proofs.Common.{[], refl}
use Rattle.std.specs.Prelude.{codes}
use Rattle.script_streams.specs.Replies.{no_reply}
use Rattle.script_streams.specs.PrintLaws.{prints_nothing}
use Rattle.inspector_cli.proofs.answers.answer_plain.Goals as goal

pub returns-in-Silence : goal.returns-in-Silence
returns-in-Silence g c = rw c.in-Silence.is ([], (refl, refl), prints_nothing)

pub returns-in-BadLine : goal.returns-in-BadLine
returns-in-BadLine g c = rw c.in-BadLine.is (no_reply (codes "BadLine"), (refl, refl), c.print_no.ensures)

pub returns-in-LineTooLong : goal.returns-in-LineTooLong
returns-in-LineTooLong g c = rw c.in-LineTooLong.is (no_reply (codes "LineTooLong"), (refl, refl), c.print_no-in-LineTooLong.ensures)
