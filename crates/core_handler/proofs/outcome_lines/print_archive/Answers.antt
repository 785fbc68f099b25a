use Rattle.std.proofs.Common.{ap}
use Rattle.script_words.specs.Printing.{shown}
use Rattle.script_streams.specs.PrintLaws.{prints_as, prints_then}
use Rattle.core_handler.specs.Printing.{archive_words}
use Rattle.core_handler.proofs.outcome_lines.print_archive.Goals as goal

pub returns : goal.returns
unfolding archive_words
returns g c = prints_then c.print.ensures (prints_then c.print-2.ensures (prints_as (ap shown c.as_bytes.ensures.value) c.print_text.ensures))
