use Rattle.script_streams.specs.PrintLaws.{prints_then}
use Rattle.case_screens.proofs.frames.print_rest.Goals as goal

pub returns : goal.returns
returns g c =
    prints_then c.print.ensures
    (prints_then c.print-2.ensures
    (prints_then c.print_decimal.ensures c.print-3.ensures))
