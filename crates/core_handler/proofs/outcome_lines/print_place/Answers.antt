use Rattle.std.proofs.Common.{ap}
use Rattle.script_words.specs.Printing.{shown}
use Rattle.script_streams.specs.PrintLaws.{prints_as, prints_then}
use Rattle.core_handler.proofs.outcome_lines.print_place.Goals as goal

pub returns : goal.returns
returns g c = prints_then c.print.ensures (prints_then (prints_as c.name_or_minus.ensures c.print-2.ensures) (prints_then c.print-3.ensures (prints_as (ap shown c.as_bytes.ensures.value) c.print_text.ensures)))
