use Rattle.std.proofs.Common.{arith}
use Rattle.script_streams.specs.PrintLaws.{prints_as, prints_then}
use Rattle.memory_replies.proofs.TextLemmas.{shown_halves}
use Rattle.memory_replies.proofs.texts.print_values.Goals as goal

pub returns : goal.returns
returns g c =
    prints_as (shown_halves _ _ _ _ _ (omega arith)) (prints_then c.print_pieces.ensures c.print_pieces-2.ensures)
