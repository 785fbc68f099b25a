use Rattle.std.proofs.Common.{drop}
use Rattle.std.specs.List.{flat_map}
use Rattle.script_streams.specs.Printing.{sink}
use Rattle.memory_replies.specs.Find.{address_line}
use Rattle.memory_replies.proofs.PrintLemmas.{PrintsUpTo}
use Rattle.case_queries.proofs.found.print_addresses.Given as goal

-- the addresses that went by are told
abbrev pub invariant-loop-i : goal.invariant-loop-i
invariant-loop-i g l = PrintsUpTo (sink g.O.Output l.initial.reply) (sink g.O.Output l.reply) (flat_map address_line l.found) (flat_map address_line (drop l.i l.found))
