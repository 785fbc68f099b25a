use Rattle.std.proofs.Common.{ap}
use Rattle.script_streams.specs.PrintLaws.{prints_as, prints_then}
use Rattle.build_replies.specs.Builds.{number_word, used_line}
use Rattle.build_replies.proofs.used.print_line.Goals as goal

pub returns : goal.returns
unfolding used_line
returns g c =
    prints_then c.print_text.ensures (prints_then c.print.ensures (prints_then (prints_as (ap number_word c.case_used.ensures) c.print_number.ensures)
    (prints_then c.print-2.ensures (prints_then (prints_as c.how.ensures c.print-3.ensures)
    (prints_then c.print-4.ensures (prints_then (prints_as (ap number_word c.case_of_file.ensures) c.print_number-2.ensures) c.print-5.ensures))))))
