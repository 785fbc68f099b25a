use Rattle.std.proofs.Common.{refl}
use Rattle.memory_replies.proofs.AnswerLemmas.{matches_shown, shown}
use Rattle.script_streams.specs.PrintLaws.{prints_then}
use Rattle.memory_replies.proofs.search.print_find.Goals as goal

pub returns-in_default : goal.returns-in_default
returns-in_default g c = (_, refl, c.print_no.ensures)

pub returns : goal.returns
returns g c =
    (_, shown _ _ (matches_shown _ _ _ _ c.in-Ok.ensures.memory), prints_then c.print_matches.ensures c.print_ok.ensures)
