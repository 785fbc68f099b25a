use Rattle.script_streams.specs.PrintLaws.{prints_then}
use Rattle.case_screens.proofs.screen.print_core.Goals as goal

pub returns : goal.returns
returns g c =
    prints_then c.print_when.ensures
    (prints_then c.print_cut.ensures
    (prints_then c.print_unread.ensures
    (prints_then c.print_process.ensures
    (prints_then c.print_signal_line.ensures (prints_then c.print_threads.ensures c.print_files.ensures)))))
