use Rattle.script_streams.specs.PrintLaws.{prints_then, prints_as}
use Rattle.memory_replies.specs.Maps.{rights}
use Rattle.memory_replies.proofs.maps.print_rights.Goals as goal

pub returns : goal.returns
unfolding rights
returns g c =
    prints_then (prints_as c.flag_letter.ensures c.print.ensures)
    (prints_then (prints_as c.flag_letter-2.ensures c.print-2.ensures) (prints_as c.flag_letter-3.ensures c.print-3.ensures))
