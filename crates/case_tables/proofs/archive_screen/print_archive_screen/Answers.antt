use Rattle.script_streams.specs.PrintLaws.{prints_then}
use Rattle.case_tables.proofs.archive_screen.print_archive_screen.Goals as goal

pub returns : goal.returns
returns g c = record {
  is_screen =
      prints_then c.print_layout.ensures
      (prints_then c.print_data.ensures
      (prints_then c.print_journal.ensures
      (prints_then c.print_cases.ensures (prints_then c.print_times.ensures (prints_then c.print_numbers.ensures c.print_days.ensures)))));
}
