use Rattle.std.proofs.Common.{take, map}
use Rattle.crash_signatures.specs.WordViews.{said}
use Rattle.script_streams.specs.Printing.{sink, Prints}
use Rattle.group_tables.specs.Words.{others_text}
use Rattle.group_tables.proofs.words.print_others.Given as goal

abbrev pub invariant-loop-word : goal.invariant-loop-word
invariant-loop-word g l = Prints (sink g.O.Output l.initial.reply) (sink g.O.Output l.reply) (others_text (map said (take l.word-index l.words)))
