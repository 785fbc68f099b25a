use Rattle.std.proofs.Common.{refl}
use Rattle.memory_replies.proofs.AnswerLemmas.{shown}
use Rattle.memory_replies.proofs.TextLemmas.{texts_told}
use Rattle.script_streams.specs.PrintLaws.{prints_then}
use Rattle.memory_replies.proofs.texts.print_strings.Goals as goal

pub returns-in_default : goal.returns-in_default
returns-in_default g c = (_, refl, c.print_no.ensures)

pub returns : goal.returns
returns g c =
    (_, shown _ _ (texts_told _ _ _ _ c.in-Ok.ensures.memory), prints_then c.print_texts.ensures c.print_ok.ensures)
