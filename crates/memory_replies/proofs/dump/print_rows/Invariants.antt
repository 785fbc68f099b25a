use Rattle.std.proofs.Common.{◌-◌}
use Rattle.script_streams.specs.Printing.{sink}
use Rattle.std.specs.List.{flat_map, range_with_len}
use Rattle.memory_replies.specs.Dump.{row_line}
use Rattle.memory_replies.proofs.PrintLemmas.{PrintsUpTo}
use Rattle.memory_replies.proofs.dump.print_rows.Given as goal

-- the rows that went by are told
abbrev pub invariant-loop-i : goal.invariant-loop-i
invariant-loop-i g l =
    PrintsUpTo (sink g.O.Output l.initial.reply) (sink g.O.Output l.reply)
    (flat_map (row_line l.word l.first l.bytes) (range_with_len 0 l.count)) (flat_map (row_line l.word l.first l.bytes) (range_with_len l.i (l.count - l.i)))
