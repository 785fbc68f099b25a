use Rattle.std.proofs.Common.{drop}
use Rattle.script_streams.specs.Printing.{sink}
use Rattle.memory_replies.proofs.PrintLemmas.{PrintsUpTo}
use Rattle.case_queries.specs.Finding.{lines_of_texts}
use Rattle.case_queries.proofs.found.print_texts.Given as goal

-- the texts that went by are told, and the bytes of the others are left
abbrev pub invariant-loop-i : goal.invariant-loop-i
invariant-loop-i g l = PrintsUpTo (sink g.O.Output l.initial.reply) (sink g.O.Output l.reply) (lines_of_texts l.texts.places.items l.texts.bytes.items) (lines_of_texts (drop l.i l.texts.places.items) l.rest)
