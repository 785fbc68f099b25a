use Rattle.script_streams.specs.PrintLaws.{prints_then, prints_as}
use Rattle.memory_replies.proofs.frames.print_stop.Goals as goal

pub returns : goal.returns
returns g c =
    prints_then c.print.ensures (prints_then (prints_as c.stop_name.ensures c.print-2.ensures) c.print-3.ensures)
