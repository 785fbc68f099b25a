use Rattle.std.proofs.Common.{ap}
use Rattle.script_words.specs.Printing.{shown}
use Rattle.archive_replies.specs.Texts.{label_word}
use Rattle.script_streams.specs.PrintLaws.{prints_then, prints_as}
use Rattle.archive_replies.proofs.replies.print_case.Goals as goal

pub returns : goal.returns
returns g c =
    prints_then c.print_number.ensures
    (prints_then (prints_as c.kind_word.ensures c.print.ensures)
    (prints_then c.print-2.ensures
    (prints_then c.print_number-2.ensures
    (prints_then c.print_number-3.ensures
    (prints_then c.print_number-4.ensures
    (prints_then c.print_number-5.ensures
    (prints_then (prints_as c.pin_word.ensures c.print-3.ensures)
    (prints_then c.print-4.ensures
    (prints_then (prints_as (ap shown c.as_slice.ensures.value) c.print_text.ensures)
    (prints_then (prints_as (ap (label_word c.args.version) c.as_slice-2.ensures.value) c.print_label.ensures) c.print-5.ensures))))))))))
